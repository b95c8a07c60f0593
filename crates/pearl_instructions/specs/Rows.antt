-- One row for each instruction, and how an object's code runs.
use Rattle.std.specs.Prelude.{ℕ, ◌+◌, ◌-◌, List, [], ◌∷◌, Option, Some, None, length, map, slice_get, option_and_then}
use Rattle.pearl_value.specs.declared.cell.Cell.{Cell}
use Rattle.pearl_rules.specs.declared.action.Action.TheVariants as action
use Rattle.pearl_rules.specs.declared.action.Answer.{Answer}
use Rattle.pearl_stack.specs.Frames.{Frame}
use Rattle.pearl_instructions.specs.declared.instr.Instr.{Instr}
use Rattle.pearl_instructions.specs.declared.instr.Instr.TheVariants.{Const, Load, Store, Fill, Drop, Conv, Index, LoadAt, StoreAt, Read, Write, ReadAt, WriteAt, RefSlot, RefSlotAt, RefCell, RefCellAt, ReadRef, WriteRef, Jump, JumpZero, Case, Turn, Call, Return, End, Trap, Within, Advance, NonZero, Monadic, Dyadic, Now, Request, Release, Try, Activate, Continue, Resume, Suspend, Terminate, Prevent, SuspendOwn, TerminateOwn, PreventOwn, Enable, Disable, Trigger, Put, Get, Take, Send}
use Rattle.pearl_instructions.specs.declared.object.Code.{Code}
use Rattle.pearl_instructions.specs.declared.object.Parts.{Parts as Object}
use Rattle.pearl_instructions.specs.Objects.{routine_at, result_of}
use Rattle.pearl_instructions.specs.Steps.{Step, Silent, Offers, Missing, given, popped, leaves, stops, traps, acts, asks, within}
use Rattle.pearl_instructions.specs.Cells.{load, store, fill, load_at, store_at, reads, writes, slot_reference, cell_reference, read_reference, write_reference}
use Rattle.pearl_instructions.specs.Operators.{monadic, dyadic, convert, index, non_zero}
use Rattle.pearl_instructions.specs.Flow.{goes, jump_zero, branch, within_loop, advance, call, returns, fresh}
use Rattle.pearl_instructions.specs.Offers.{activate, continue, resume, put_values, get_values}

-- the routine of the lowest frame
abbrev pub lowest : Frame → List Frame → ℕ
lowest f [] = f.routine
lowest f (g ∷ lower) = lowest g lower

-- the number of the task whose stack this is
abbrev pub own_task : Object → Frame → List Frame → ℕ
own_task o f lower = lowest f lower - length o.procedures

-- one row for each instruction, over the top frame and those below it
abbrev pub act : Object → Instr → Frame → List Frame → Step
act o (Const x) f lower = leaves f lower (x ∷ f.operands)
act o (Load c) f lower = load c f lower f.operands
act o (Store c) f lower = popped f.operands (λ x left. store c x f lower left)
act o (Fill c n kind) f lower = fill c n kind f lower
act o Drop f lower = popped f.operands (λ x left. leaves f lower left)
act o (Conv kind) f lower = convert kind f lower
act o (Index bounds) f lower = index bounds f lower
act o (LoadAt c n) f lower = load_at c n f lower
act o (StoreAt c n) f lower = store_at c n f lower
act o (Read v) f lower = given (slice_get o.leaves v) (λ leaf. reads o v 0 f lower f.operands)
act o (Write v) f lower = given (slice_get o.leaves v) (λ leaf. popped f.operands (λ x left. writes o v 0 x f lower left))
act o (ReadAt v) f lower = given (slice_get o.leaves v) (λ leaf. popped f.operands (λ n left. within leaf.slots n f lower (λ n. reads o v n f lower left)))
act o (WriteAt v) f lower =
    given (slice_get o.leaves v) (λ leaf. popped f.operands (λ x more. popped more (λ n left. within leaf.slots n f lower (λ n. writes o v n x f lower left))))
act o (RefSlot v) f lower = given (slice_get o.leaves v) (λ leaf. slot_reference o v leaf 0 f lower f.operands)
act o (RefSlotAt v) f lower =
    given (slice_get o.leaves v) (λ leaf. popped f.operands (λ n left. within leaf.slots n f lower (λ n. slot_reference o v leaf n f lower left)))
act o (RefCell c) f lower = cell_reference c f lower f.operands
act o (RefCellAt c count) f lower = popped f.operands (λ n left. within count n f lower (λ n. cell_reference (c + n) f lower left))
act o ReadRef f lower = popped f.operands (λ r left. read_reference f lower left r)
act o WriteRef f lower = popped f.operands (λ x more. popped more (λ r left. write_reference x f lower left r))
act o (Jump i) f lower = goes i f lower f.operands
act o (JumpZero i) f lower = popped f.operands (λ b left. jump_zero i f lower left b)
act o (Case targets) f lower = popped f.operands (λ x left. branch targets f lower left x)
act o Turn f lower = acts action.Turn f lower f.operands
act o (Call p) f lower = call p (slice_get o.procedures p) f lower
act o Return f lower = returns (result_of o f.routine) f lower
act o End f lower = stops action.End f lower
act o (Trap trap) f lower = traps trap f lower
act o (Within c) f lower = within_loop c f lower
act o (Advance c i) f lower = advance c i f lower
act o NonZero f lower = non_zero f lower
act o (Monadic op) f lower = monadic op f lower
act o (Dyadic op) f lower = dyadic op f lower
act o Now f lower = asks action.Now f lower f.operands
act o (Request semaphores) f lower = acts (action.Request (record { items = semaphores })) f lower f.operands
act o (Release semaphores) f lower = acts (action.Release (record { items = semaphores })) f lower f.operands
act o (Try semaphore) f lower = asks (action.Try semaphore) f lower f.operands
act o (Activate a) f lower = activate a f lower
act o (Continue c) f lower = continue c f lower
act o (Resume form) f lower = resume form f lower
act o (Suspend t) f lower = acts (action.Suspend t) f lower f.operands
act o (Terminate t) f lower = acts (action.Terminate t) f lower f.operands
act o (Prevent t) f lower = acts (action.Prevent t) f lower f.operands
act o SuspendOwn f lower = acts (action.Suspend (own_task o f lower)) f lower f.operands
act o TerminateOwn f lower = stops (action.Terminate (own_task o f lower)) f lower
act o PreventOwn f lower = acts (action.Prevent (own_task o f lower)) f lower f.operands
act o (Enable d) f lower = acts (action.Enable d) f lower f.operands
act o (Disable d) f lower = acts (action.Disable d) f lower f.operands
act o (Trigger d) f lower = acts (action.Trigger d) f lower f.operands
act o (Put d format) f lower = put_values o d format f lower
act o (Get g) f lower = get_values o g f lower
act o (Take d) f lower = asks (action.Take d) f lower f.operands
act o (Send d) f lower = popped f.operands (λ x left. acts (action.Send d x) f lower left)

-- the instruction at which a frame is
abbrev pub instr_at : Object → Frame → Option Instr
instr_at o f = option_and_then (λ c. slice_get c.instructions f.place) (routine_at o f.routine)

-- what the instruction at which a stack is does
abbrev pub row : Object → List Frame → Step
row o [] = Missing
row o (f ∷ lower) = given (instr_at o f) (λ instr. act o instr f lower)

-- the stack with which a task goes on after its action's answer
abbrev pub after : Step → Answer → List Frame
after (Silent frames) answer = frames
after (Offers action go) answer = go answer
after Missing answer = []

abbrev pub fresh_cells : Option Code → List Cell
fresh_cells None = []
fresh_cells (Some code) = map fresh code.cells

-- the one frame of a routine at its first instruction, with unset cells
abbrev pub begun : Object → ℕ → List Frame
begun o r = record { routine = r; place = 0; cells = fresh_cells (routine_at o r); operands = [] } ∷ []
