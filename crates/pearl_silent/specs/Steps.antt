-- What a step and an answer make of a stack in memory, by the row of the instruction at which it stands.
use Rattle.std.specs.Prelude.{◌≡◌, ◌≢◌, ℕ, ◌+◌, ◌≤◌, ◌<◌, ◌^◌, pos, Bool, false, ◌==◌, nat_lt, if◌then◌else◌, List, [], ◌∷◌, Option, Some, None, Result, drop}
use Rattle.pearl_value.specs.declared.cell.Cell.{Cell}
use Rattle.pearl_value.specs.declared.cell.Cell.TheVariants.{Fixed, Bits, Ref}
use Rattle.pearl_value.specs.WellFormed.{IsValue}
use Rattle.pearl_value.specs.declared.trap.Trap.{Trap}
use Rattle.pearl_rules.specs.declared.action.Answer.{Answer}
use Rattle.pearl_stack.specs.declared.stack.Frame as size
use Rattle.pearl_stack.specs.Frames.{Frame, Stack, sizes, used, place_of, moved}
use Rattle.pearl_instructions.specs.Steps.{Step, Silent, Offers, Missing, popped, makes, leaves}
use Rattle.pearl_instructions.specs.Cells.{put, store, cell_reference}
use Rattle.pearl_instructions.specs.Flow.{target_of}
use Rattle.pearl_silent.specs.declared.stepped.Did.{Did}
use Rattle.pearl_rules.specs.declared.action.Action.{Action}
use Rattle.pearl_silent.specs.declared.stepped.Did.TheVariants as did
use Rattle.pearl_rules.specs.declared.action.Action.TheVariants as action

-- a row over the top frame and those below it
abbrev pub on_top : (Frame → List Frame → Step) → List Frame → Step
on_top go [] = Missing
on_top go (f ∷ lower) = go f lower

-- what an instruction can do: its task goes on, or halts at the action that it offers
pub data Stepped : Type 0 where
  GoesOn : Stepped
  Halts : (action : Action) → Stepped

-- the stack became what the row leaves, or the row's action is offered and nothing changed
abbrev pub Does : Step → Stack → Stack → Stepped → Type 0
Does row before after GoesOn = (row ≡ Silent after.frames) × (after.room ≡ before.room) × (after.most ≡ before.most)
Does row before after (Halts action) = (go : Answer → List Frame) × (row ≡ Offers action go) × (after ≡ before)

-- what an instruction that offers no action but a trap did, of what one can do
abbrev pub told : Did → Stepped
told did.Silent = GoesOn
told (did.Trapped trap) = Halts (action.Trap trap)

-- the row was tried: it is of another family and nothing changed, or it was carried out
abbrev pub Tries : Step → (is_other : Type 0) → Stack → Stack → Option Did → Type 0
Tries row is_other before after None = is_other × (after ≡ before)
Tries row is_other before after (Some d) = Does row before after (told d)

-- there is a row, and memory for what it leaves
abbrev pub Applies : Step → ℕ → Type 0
Applies Missing room = ⊥
Applies (Silent frames) room = used frames ≤ room
Applies (Offers action go) room = Unit {0}

-- the top frame has these sizes
abbrev pub IsSizes : size.Frame → List Frame → Type 0
IsSizes here [] = ⊥
IsSizes here (f ∷ lower) = here ≡ sizes f

-- the top frame has these sizes, and another instruction can stand behind its own
pub record IsHere (here : size.Frame) (frames : List Frame) : Type 0 where
  pub top : IsSizes here frames
  pub next : here.instruction + 1 < 2 ^ 64

-- the same of a stack, whatever the sizes of its top frame are
pub record HasNext (frames : List Frame) : Type 0 where
  pub some : frames ≢ []
  pub next : place_of frames + 1 < 2 ^ 64

-- the sizes of the top frame
abbrev pub sizes_of : List Frame → size.Frame
sizes_of [] = record { routine = 0; instruction = 0; cells = 0; operands = 0 }
sizes_of (f ∷ lower) = sizes f

-- the stack whose top frame is at the instruction behind its own
abbrev pub next_of : List Frame → List Frame
next_of frames = moved (place_of frames + 1) frames

abbrev pub top_cells : List Frame → List Cell
top_cells [] = []
top_cells (f ∷ lower) = f.cells

-- the stack in which cell c of the top frame is x
abbrev pub with_top_cell : ℕ → Cell → List Frame → List Frame
with_top_cell c x [] = []
with_top_cell c x (f ∷ lower) = put f c x ∷ lower

-- a value, or a reference
abbrev pub IsFormed : Cell → Type 0
IsFormed (Ref of place) = Unit {0}
IsFormed x = IsValue x

-- what was made stands in the place of so many operands, or the trap is offered
abbrev pub made_on : ℕ → Result Cell Trap → List Frame → Step
made_on n made frames = on_top (λ f lower. makes f lower (drop n f.operands) made) frames

-- so many operands are taken off
abbrev pub left_on : ℕ → List Frame → Step
left_on n frames = on_top (λ f lower. leaves f lower (drop n f.operands)) frames

-- so many operands are taken off, and the top one of those before is put into cell c
abbrev pub stored_on : ℕ → ℕ → List Frame → Step
stored_on c n frames = on_top (λ f lower. popped f.operands (λ x left. store c x f lower (drop n left))) frames

-- the number of an element among n, where the value is one
abbrev pub offset_below : ℕ → Cell → Option ℕ
offset_below n (Fixed len (pos o)) = if nat_lt o n then Some o else None
offset_below n x = None

-- whether a BIT is 0
abbrev pub is_zero : Cell → Bool
is_zero (Bits len value) = value == 0
is_zero x = false

-- the instruction that the value of a CASE names
abbrev pub target_for : List ℕ → Cell → Option ℕ
target_for targets (Fixed len x) = target_of targets x
target_for targets x = None

-- the stack in which the top frame has these cells
abbrev pub with_cells : List Cell → List Frame → List Frame
with_cells cells [] = []
with_cells cells (f ∷ lower) = record f { cells = cells } ∷ lower

-- a reference to cell c stands in the place of so many operands
abbrev pub referred_on : ℕ → ℕ → List Frame → Step
referred_on c n frames = on_top (λ f lower. cell_reference c f lower (drop n f.operands)) frames
