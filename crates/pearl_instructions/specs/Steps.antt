-- What one instruction does: the words in which the rows are written. Frames and operands stand from the top down.
use Rattle.std.specs.Prelude.{ℕ, ◌+◌, pos, negsuc, Bool, true, false, ◌==◌, nat_lt, nat_le, if◌then◌else◌, List, [], ◌∷◌, Option, Some, None, Result, Ok, Err, length, take, drop, reverse}
use Rattle.pearl_value.specs.declared.kind.Kind.{Kind}
use Rattle.pearl_value.specs.declared.cell.Cell.{Cell}
use Rattle.pearl_value.specs.declared.cell.Cell.TheVariants.{Fixed, Ref}
use Rattle.pearl_value.specs.declared.trap.Trap.{Trap}
use Rattle.pearl_value.specs.declared.trap.Trap.TheVariants.{Index}
use Rattle.pearl_value.specs.Cells.{kind_of}
use Rattle.pearl_rules.specs.declared.action.Action.{Action}
use Rattle.pearl_rules.specs.declared.action.Action.TheVariants as action
use Rattle.pearl_rules.specs.declared.action.Answer.{Answer}
use Rattle.pearl_rules.specs.declared.action.Answer.TheVariants.{Nothing, One, Many}
use Rattle.pearl_stack.specs.Frames.{Frame, unset}

-- What an instruction does: it leaves a stack, or it offers an action and goes on with a stack after the answer. Missing: there is
-- no row, since an operand is missing or of another kind, or a number names nothing.
pub data Step : Type 0 where
  Silent : (frames : List Frame) → Step
  Offers : (action : Action) (go : Answer → List Frame) → Step
  Missing : Step

abbrev pub given : {A : Type 0} → Option A → (A → Step) → Step
given None go = Missing
given (Some x) go = go x

abbrev pub needed : Bool → Step → Step
needed false step = Missing
needed true step = step

-- the top operand, and those below it
abbrev pub popped : List Cell → (Cell → List Cell → Step) → Step
popped [] go = Missing
popped (x ∷ left) go = go x left

-- the top n operands in the order in which they were pushed, and those below them
abbrev pub taken : ℕ → List Cell → (List Cell → List Cell → Step) → Step
taken n operands go = needed (nat_le n (length operands)) (go (reverse (take n operands)) (drop n operands))

-- the kind of a value; a reference has none
abbrev pub value_kind : Cell → Option Kind
value_kind (Ref of place) = None
value_kind x = Some (kind_of x)

-- the frame at an instruction, with these operands
abbrev pub at : ℕ → Frame → List Cell → Frame
at i f operands = record f { place = i; operands = operands }

abbrev pub next : Frame → List Cell → Frame
next f operands = at (f.place + 1) f operands

-- the instruction only leaves these operands
abbrev pub leaves : Frame → List Frame → List Cell → Step
leaves f lower operands = Silent (next f operands ∷ lower)

-- an action after whose answer nothing more is done
abbrev pub stops : Action → Frame → List Frame → Step
stops action f lower = Offers action (λ answer. f ∷ lower)

abbrev pub traps : Trap → Frame → List Frame → Step
traps trap f lower = stops (action.Trap trap) f lower

-- an action that takes its operands off, leaving these
abbrev pub acts : Action → Frame → List Frame → List Cell → Step
acts action f lower left = Offers action (λ answer. next f left ∷ lower)

-- the value that an answer has; an answer without one counts as what a cell holds before it is written
abbrev pub heard : Answer → Cell
heard Nothing = unset
heard (One x) = x
heard (Many xs) = unset

-- the values of a GET's answer
abbrev pub all_heard : Answer → List Cell
all_heard Nothing = []
all_heard (One x) = []
all_heard (Many xs) = xs.items

-- an action whose answer is pushed
abbrev pub asks : Action → Frame → List Frame → List Cell → Step
asks action f lower left = Offers action (λ answer. next f (heard answer ∷ left) ∷ lower)

-- what was made is pushed on the operands that are left, or a trap is offered
abbrev pub makes : Frame → List Frame → List Cell → Result Cell Trap → Step
makes f lower left (Ok x) = leaves f lower (x ∷ left)
makes f lower left (Err trap) = traps trap f lower

-- an offset, which is a FIXED(31), from 0 to n - 1, or the trap Index
abbrev pub within : ℕ → Cell → Frame → List Frame → (ℕ → Step) → Step
within n (Fixed len (pos o)) f lower go = needed (len == 31) (if nat_lt o n then go o else traps Index f lower)
within n (Fixed len (negsuc o)) f lower go = needed (len == 31) (traps Index f lower)
within n x f lower go = Missing
