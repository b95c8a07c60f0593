-- What a state must be so that a run of an object can go on from it: rules N1 to N6, each of which takes those before it for granted.
-- N2, N3 and N4 are those of its record, over the object's tables.
use Rattle.std.specs.Prelude.{◌≡◌, ℕ, zero, suc, ◌+◌, ◌<◌, ◌≤◌, ◌≤ℤ◌, List, [], ◌∷◌, ◌++◌, Option, Some, None, option_and_then, length, map, drop, reverse, slice_get}
use Rattle.std.specs.List.{AllByRecursion}
use Rattle.pearl_value.specs.declared.kind.Kind.{Kind}
use Rattle.pearl_value.specs.declared.kind.CellKind.{CellKind}
use Rattle.pearl_value.specs.declared.kind.CellKind.TheVariants.{Plain, RefTo}
use Rattle.pearl_value.specs.Cells.{kind_of}
use Rattle.pearl_value.specs.WellFormed.{IsValue}
use Rattle.pearl_instructions.specs.declared.instr.Bounds.{Bounds}
use Rattle.pearl_instructions.specs.declared.instr.Instr.TheVariants.{Call}
use Rattle.pearl_instructions.specs.declared.object.Leaf.{Leaf}
use Rattle.pearl_instructions.specs.declared.object.Code.{Code}
use Rattle.pearl_instructions.specs.declared.object.Procedure.{Procedure}
use Rattle.pearl_instructions.specs.declared.object.Parts.{Parts as Object}
use Rattle.pearl_instructions.specs.Objects.{routine_at, first_slot}
use Rattle.pearl_instructions.specs.Setups.{setup_of}
use Rattle.pearl_instructions.specs.Valid.{shape_before, elements, IsValid}
use Rattle.pearl_records.specs.declared.record.TaskRecord.{TaskRecord}
use Rattle.pearl_records.specs.declared.record.Standing.{Standing}
use Rattle.pearl_records.specs.declared.record.Standing.TheVariants.{Dormant, Active}
use Rattle.pearl_records.specs.States.{HasParts, HasNumbers, HasSpans}
use Rattle.pearl_saved.specs.declared.saved.Target.{Target}
use Rattle.pearl_saved.specs.declared.saved.Target.TheVariants.{Slot, Own}
use Rattle.pearl_saved.specs.declared.saved.ArrayReference.{ArrayReference}
use Rattle.pearl_saved.specs.declared.saved.SavedCell.{SavedCell}
use Rattle.pearl_saved.specs.declared.saved.SavedCell.TheVariants.{Value, Variable, Array}
use Rattle.pearl_saved.specs.declared.saved.FrameRecord.{FrameRecord}
use Rattle.pearl_saved.specs.declared.saved.Saved.{Saved}

-- ---- N5: stacks are of their routines

-- no cell of a routine is an array
abbrev pub kind_held : SavedCell → Option CellKind
kind_held (Value x) = Some (Plain (kind_of x))
kind_held (Variable reference) = Some (RefTo reference.kind)
kind_held (Array array) = None

-- each of the cells has its kind
abbrev pub AreOf : List CellKind → List SavedCell → Type 0
AreOf kinds cells = map kind_held cells ≡ map Some kinds

-- what is held is a reference, or a value within its kind
abbrev pub IsHeld : SavedCell → Type 0
IsHeld (Value x) = IsValue x
IsHeld reference = Unit {0}

abbrev pub HoldsHeld : FrameRecord → Type 0
HoldsHeld f = AllByRecursion IsHeld (f.cells ++ f.operands)

-- a frame of some code, whose operands, the top one first, have these kinds
pub record Stands (code : Code) (shape : List CellKind) (f : FrameRecord) : Type 0 where
  pub cells : AreOf code.cells f.cells
  pub operands : AreOf shape (reverse f.operands)
  pub values : HoldsHeld f

-- the top frame is at an instruction, with the operands before it
pub record IsAtPlace (o : Object) (f : FrameRecord) : Type 0 where
  pub code : Code
  pub routine : routine_at o f.routine ≡ Some code
  pub place : f.place < length code.instructions
  pub stands : Stands code (shape_before o f.routine code f.place) f

-- a lower frame is at its Call of procedure p, with the operands before it but for the arguments
pub record IsAtCall (o : Object) (p : ℕ) (f : FrameRecord) : Type 0 where
  pub code : Code
  pub routine : routine_at o f.routine ≡ Some code
  pub place : slice_get code.instructions f.place ≡ Some (Call p)
  pub callee : Procedure
  pub called : slice_get o.procedures p ≡ Some callee
  pub stands : Stands code (drop callee.params (shape_before o f.routine code f.place)) f

-- frames, the lowest first, of which the lowest is of this routine, and each other one is called by the one below it
abbrev pub IsStackOf : Object → ℕ → List FrameRecord → Type 0
IsStackOf o routine [] = ⊥
IsStackOf o routine (f ∷ []) = (f.routine ≡ routine) × IsAtPlace o f
IsStackOf o routine (f ∷ above ∷ more) = (f.routine ≡ routine) × IsAtCall o above.routine f × IsStackOf o above.routine (above ∷ more)

abbrev pub HasStack : Object → (task : ℕ) → Standing → List FrameRecord → Type 0
HasStack o task Dormant frames = frames ≡ []
HasStack o task (Active priority suspended kept) frames = IsStackOf o (length o.procedures + task) frames

-- a stack for each task, the first having this number
abbrev pub HasStacks : Object → ℕ → List TaskRecord → List (List FrameRecord) → Type 0
HasStacks o task [] [] = Unit {0}
HasStacks o task (row ∷ rows) (frames ∷ stacks) = HasStack o task row.standing frames × HasStacks o (task + 1) rows stacks
HasStacks o task rows stacks = ⊥

-- ---- N6: what references name is there

abbrev pub value_kind : SavedCell → Option Kind
value_kind (Value x) = Some (kind_of x)
value_kind other = None

-- the kind of the value in cell c of frame n, among these frames
abbrev pub own_kind : List FrameRecord → (n c : ℕ) → Option Kind
own_kind frames n c = option_and_then value_kind (option_and_then (λ f. slice_get f.cells c) (slice_get frames n))

-- so many slots of one leaf of this kind, from this slot on
pub record AreSlots (o : Object) (kind : Kind) (slot count : ℕ) : Type 0 where
  pub number : ℕ
  pub leaf : Leaf
  pub there : slice_get o.leaves number ≡ Some leaf
  pub of : leaf.kind ≡ kind
  pub from : first_slot o.leaves number ≤ slot
  pub up_to : slot + count ≤ first_slot o.leaves number + leaf.slots

-- so many places of this kind, from the one to which a reference leads on: slots of one leaf, or cells of one of these frames
abbrev pub Names : Object → List FrameRecord → Kind → Target → (count : ℕ) → Type 0
Names o frames kind (Slot slot) count = AreSlots o kind slot count
Names o frames kind (Own n c) count = (i : ℕ) → i < count → own_kind frames n (c + i) ≡ Some kind

abbrev pub IsRange : Bounds → Type 0
IsRange b = b.low ≤ℤ b.high

-- an array has 1 to 3 dimensions, none of them empty, and as many places as elements
pub record NamesArray (o : Object) (frames : List FrameRecord) (array : ArrayReference) : Type 0 where
  pub some : 0 < length array.bounds
  pub few : length array.bounds ≤ 3
  pub ranges : AllByRecursion IsRange array.bounds
  pub places : Names o frames array.first.kind array.first.target (elements array.bounds)

abbrev pub RefersWell : Object → List FrameRecord → SavedCell → Type 0
RefersWell o frames (Value x) = Unit {0}
RefersWell o frames (Variable reference) = Names o frames reference.kind reference.target 1
RefersWell o frames (Array array) = NamesArray o frames array

-- over these lower frames, the lowest first: cells name cells of lower frames, operands those of their own as well
abbrev pub AllRefer : Object → List FrameRecord → List FrameRecord → Type 0
AllRefer o lower [] = Unit {0}
AllRefer o lower (f ∷ more) =
    AllByRecursion (RefersWell o lower) f.cells × AllByRecursion (RefersWell o (lower ++ f ∷ [])) f.operands
    × AllRefer o (lower ++ f ∷ []) more

-- ---- all rules

abbrev pub Rule : Object → Saved → ℕ → Type 0
Rule o s zero = Unit {0}
Rule o s (suc zero) = IsValid o
Rule o s (suc (suc zero)) = HasParts (setup_of o) s.core
Rule o s (suc (suc (suc zero))) = HasNumbers (setup_of o) s.core
Rule o s (suc (suc (suc (suc zero)))) = HasSpans (setup_of o) s.core
Rule o s (suc (suc (suc (suc (suc zero))))) = HasStacks o 0 s.core.tasks s.stacks
Rule o s (suc (suc (suc (suc (suc (suc zero)))))) = AllByRecursion (AllRefer o []) s.stacks
Rule o s (suc (suc (suc (suc (suc (suc (suc n))))))) = Unit {0}

-- the state is one of this object
abbrev pub IsMachineState : Object → Saved → Type 0
IsMachineState o s = (n : ℕ) → Rule o s n

-- the rule is the least that is broken
pub record IsLeastBroken (o : Object) (s : Saved) (n : ℕ) : Type 0 where
  pub kept : (m : ℕ) → m < n → Rule o s m
  pub broken : Rule o s n → ⊥
