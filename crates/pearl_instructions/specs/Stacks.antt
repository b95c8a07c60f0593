-- Which stacks are stacks of an object, and which answers suit an action.
use Rattle.std.specs.Prelude.{◌≡◌, ◌≢◌, ℕ, zero, suc, ◌+◌, ◌<◌, ◌≤◌, ◌==◌, if◌then◌else◌, List, [], ◌∷◌, Option, Some, None, option_and_then, map, drop, slice_get, length}
use Rattle.std.specs.List.{AllZip}
use Rattle.pearl_value.specs.declared.kind.Kind.{Kind}
use Rattle.pearl_value.specs.declared.kind.Kind.TheVariants as kind
use Rattle.pearl_value.specs.declared.kind.CellKind.{CellKind}
use Rattle.pearl_value.specs.declared.kind.CellKind.TheVariants.{Plain, RefTo}
use Rattle.pearl_value.specs.declared.cell.Cell.{Cell}
use Rattle.pearl_value.specs.declared.cell.Cell.TheVariants.{Ref}
use Rattle.pearl_value.specs.declared.cell.Place.{Place}
use Rattle.pearl_value.specs.declared.cell.Place.TheVariants as place
use Rattle.pearl_value.specs.WellFormed.{IsValueOf}
use Rattle.pearl_rules.specs.declared.action.Action.{Action}
use Rattle.pearl_rules.specs.declared.action.Action.TheVariants as action
use Rattle.pearl_rules.specs.declared.action.Answer.{Answer}
use Rattle.pearl_rules.specs.declared.action.Answer.TheVariants.{Nothing, One, Many}
use Rattle.pearl_stack.specs.Frames.{Frame}
use Rattle.pearl_instructions.specs.declared.instr.Instr.TheVariants.{Call}
use Rattle.pearl_instructions.specs.declared.object.Code.{Code}
use Rattle.pearl_instructions.specs.declared.object.Procedure.{Procedure}
use Rattle.pearl_instructions.specs.declared.object.Parts.{Parts as Object}
use Rattle.pearl_instructions.specs.Objects.{routine_at, slot_kind}
use Rattle.pearl_instructions.specs.Steps.{Step, Silent, Offers, Missing}
use Rattle.pearl_instructions.specs.Operands.{Shape}
use Rattle.pearl_instructions.specs.Kinds.{plain_kind, kind_taken}
use Rattle.pearl_instructions.specs.Valid.{shape_before}
use Rattle.pearl_instructions.specs.Rows.{row, own_task}

abbrev pub routines_of : List Frame → List ℕ
routines_of frames = map (λ f. f.routine) frames

abbrev pub cells_or_none : Option Code → List CellKind
cells_or_none None = []
cells_or_none (Some code) = code.cells

-- the kinds of a routine's cells
abbrev pub cell_kinds : Object → ℕ → List CellKind
cell_kinds o r = cells_or_none (routine_at o r)

abbrev pub plain_at : List CellKind → ℕ → Option Kind
plain_at kinds c = option_and_then plain_kind (slice_get kinds c)

-- the kind of cell c of frame n, where the frames have these routines from the top down
abbrev pub cell_kind : Object → List ℕ → ℕ → ℕ → Option Kind
cell_kind o [] n c = None
cell_kind o (r ∷ rs) n c = if n == length rs then plain_at (cell_kinds o r) c else cell_kind o rs n c

-- the kind of the variable at a place
abbrev pub kind_at : Object → List ℕ → Place → Option Kind
kind_at o rs (place.Slot s) = slot_kind o.leaves s
kind_at o rs (place.Cell n c) = cell_kind o rs n c

-- a reference to a variable of this kind: a slot, or a cell of a frame with one of these routines
abbrev pub Refers : Object → List ℕ → Kind → Cell → Type 0
Refers o rs kind (Ref of at) = (of ≡ kind) × (kind_at o rs at ≡ Some kind)
Refers o rs kind x = ⊥

-- what a cell of this kind may hold
abbrev pub Suits : Object → List ℕ → CellKind → Cell → Type 0
Suits o rs (Plain kind) x = IsValueOf kind x
Suits o rs (RefTo kind) x = Refers o rs kind x

-- A frame of some code over frames of the routines rs: its cells may name cells of lower frames, its operands also its own.
pub record Stands (o : Object) (code : Code) (f : Frame) (shape : Shape) (rs : List ℕ) : Type 0 where
  pub cells : AllZip (Suits o rs) code.cells f.cells
  pub operands : AllZip (Suits o (f.routine ∷ rs)) shape f.operands

-- a frame stands at its Call of procedure p, without the arguments
pub record IsCalling (o : Object) (p : ℕ) (g : Frame) (rs : List ℕ) : Type 0 where
  pub callee : Procedure
  pub called : slice_get o.procedures p ≡ Some callee
  pub code : Code
  pub routine : routine_at o g.routine ≡ Some code
  pub place : slice_get code.instructions g.place ≡ Some (Call p)
  pub stands : Stands o code g (drop callee.params (shape_before o g.routine code g.place)) rs

-- the frames below one of routine p: the lowest is a task's, and each other one is called by the one below it
abbrev pub Below : Object → ℕ → List Frame → Type 0
Below o p [] = length o.procedures ≤ p
Below o p (g ∷ lower) = IsCalling o p g (routines_of lower) × Below o g.routine lower

pub record IsTop (o : Object) (f : Frame) (lower : List Frame) : Type 0 where
  pub code : Code
  pub routine : routine_at o f.routine ≡ Some code
  pub place : f.place < length code.instructions
  pub stands : Stands o code f (shape_before o f.routine code f.place) (routines_of lower)
  pub below : Below o f.routine lower

-- the stack is one of this object
abbrev pub IsStack : Object → List Frame → Type 0
IsStack o [] = ⊥
IsStack o (f ∷ lower) = IsTop o f lower

-- a single value of this kind
abbrev pub IsOneOf : Option Kind → Answer → Type 0
IsOneOf None answer = ⊥
IsOneOf (Some kind) (One x) = IsValueOf kind x
IsOneOf (Some kind) answer = ⊥

abbrev pub AreOf : List Kind → Answer → Type 0
AreOf kinds (Many xs) = AllZip IsValueOf kinds xs.items
AreOf kinds answer = ⊥

-- the number of the task whose stack this is
abbrev pub task_of : Object → List Frame → ℕ
task_of o [] = 0
task_of o (f ∷ lower) = own_task o f lower

-- the answers that suit an action of the task with this number; a task that ends, also by terminating itself, hears nothing more
abbrev pub Answers : Object → ℕ → Action → Answer → Type 0
Answers o own (action.Read slot) answer = IsOneOf (slot_kind o.leaves slot) answer
Answers o own action.Now answer = IsOneOf (Some kind.Clock) answer
Answers o own (action.Try semaphore) answer = IsOneOf (Some (kind.Bits 1)) answer
Answers o own (action.Take device) answer = IsOneOf (option_and_then plain_kind (kind_taken (slice_get o.devices device))) answer
Answers o own (action.Get device format kinds) answer = AreOf kinds.items answer
Answers o own action.End answer = ⊥
Answers o own (action.Trap trap) answer = ⊥
Answers o own (action.Terminate task) answer = (task ≢ own) × (answer ≡ Nothing)
Answers o own action answer = answer ≡ Nothing

-- a row of this task is there, and leads to stacks of this object only
abbrev pub Goes : Object → ℕ → Step → Type 0
Goes o own (Silent frames) = IsStack o frames
Goes o own (Offers action go) = (answer : Answer) → Answers o own action answer → IsStack o (go answer)
Goes o own Missing = ⊥

-- how many cells and operands the routine of the lowest frame states, with all that it calls
abbrev pub depth_or_none : Option Code → ℕ
depth_or_none None = 0
depth_or_none (Some code) = code.depth

abbrev pub lowest_depth : Object → List ℕ → ℕ
lowest_depth o [] = 0
lowest_depth o (r ∷ []) = depth_or_none (routine_at o r)
lowest_depth o (r ∷ s ∷ rs) = lowest_depth o (s ∷ rs)

abbrev pub room : Object → List Frame → ℕ
room o frames = lowest_depth o (routines_of frames)

-- the number of all instructions
abbrev pub all_rows : List Code → ℕ
all_rows [] = 0
all_rows (code ∷ codes) = length code.instructions + all_rows codes

-- an action is offered, or a stack is left of which this holds
abbrev pub Then : (List Frame → Type 0) → Step → Type 0
Then P (Silent frames) = P frames
Then P (Offers action go) = Unit {0}
Then P Missing = ⊥

-- an action is offered after at most so many rows, the offering one counted
abbrev pub OffersWithin : Object → ℕ → List Frame → Type 0
OffersWithin o zero frames = ⊥
OffersWithin o (suc n) frames = Then (OffersWithin o n) (row o frames)
