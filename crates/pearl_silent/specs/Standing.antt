-- What an instruction stands on: a stack of a valid object at this instruction, with memory for what its row leaves.
use Rattle.std.specs.Prelude.{◌≡◌, ℕ, true, List, [], ◌∷◌, Option, None}
use Rattle.std.specs.List.{AllByRecursion, AllZip}
use Rattle.pearl_rules.specs.declared.action.Action.{Action}
use Rattle.pearl_rules.specs.declared.action.Answer.{Answer}
use Rattle.pearl_stack.specs.declared.stack.Frame as size
use Rattle.pearl_stack.specs.Frames.{Frame, Stack, top_operands}
use Rattle.pearl_instructions.specs.declared.instr.Instr.{Instr}
use Rattle.pearl_instructions.specs.declared.instr.Instr.TheVariants.{Const, Load, Store, Fill, Drop, Conv, Index, LoadAt, StoreAt, Read, Write, ReadAt, WriteAt, RefSlot, RefSlotAt, RefCell, RefCellAt, ReadRef, WriteRef, Jump, JumpZero, Case, Turn, Call, Return, End, Trap, Within, Advance, NonZero, Monadic, Dyadic, Activate, Continue, Resume, Suspend, Terminate, Prevent, SuspendOwn, TerminateOwn, PreventOwn}
use Rattle.pearl_instructions.specs.declared.object.Code.{Code}
use Rattle.pearl_instructions.specs.declared.object.Parts.{Parts as Object}
use Rattle.pearl_instructions.specs.Actions.{IsOffered}
use Rattle.pearl_instructions.specs.Lawful.{IsInstr, IsObject}
use Rattle.pearl_instructions.specs.Named.{v1}
use Rattle.pearl_instructions.specs.Operands.{Shape}
use Rattle.pearl_instructions.specs.Rows.{act, instr_at}
use Rattle.pearl_instructions.specs.Stacks.{IsStack, Suits, routines_of}
use Rattle.pearl_instructions.specs.Steps.{Step, Offers}
use Rattle.pearl_instructions.specs.Valid.{v12}
use Rattle.pearl_silent.specs.Steps.{on_top, Applies, IsHere, HasNext, IsFormed, top_cells}

-- what this instruction does there
abbrev pub act_on : Object → Instr → List Frame → Step
act_on o instr frames = on_top (λ f lower. act o instr f lower) frames

-- the instruction at which the stack is
abbrev pub instr_of : Object → List Frame → Option Instr
instr_of o [] = None
instr_of o (f ∷ lower) = instr_at o f

-- the family of an instruction: 0 on cells and operands; 1 jumps, loops and the way back, which with those before offer nothing but a trap;
-- 2 calls, ends and references; 3 variables of the module; 4 actions on tasks; 5 the clock, semaphores and devices
abbrev pub family : Instr → ℕ
family (Const x) = 0
family (Load c) = 0
family (Store c) = 0
family (Fill c n kind) = 0
family Drop = 0
family (LoadAt c n) = 0
family (StoreAt c n) = 0
family (RefCell c) = 0
family (RefCellAt c n) = 0
family (Conv kind) = 0
family (Index bounds) = 0
family NonZero = 0
family (Monadic op) = 0
family (Dyadic op) = 0
family (Jump i) = 1
family (JumpZero i) = 1
family (Case targets) = 1
family Return = 1
family (Within c) = 1
family (Advance c i) = 1
family Turn = 2
family (Call p) = 2
family End = 2
family (Trap trap) = 2
family ReadRef = 2
family WriteRef = 2
family (Read v) = 3
family (Write v) = 3
family (ReadAt v) = 3
family (WriteAt v) = 3
family (RefSlot v) = 3
family (RefSlotAt v) = 3
family (Activate a) = 4
family (Continue c) = 4
family (Resume form) = 4
family (Suspend t) = 4
family (Terminate t) = 4
family (Prevent t) = 4
family SuspendOwn = 4
family TerminateOwn = 4
family PreventOwn = 4
family instr = 5

-- The stack stands at this instruction, the sizes of its top frame are these, and the number of a format has 32 bits. The row is there, and
-- memory for what it leaves; cells and operands are values or references; an action that is offered names what is there; and the
-- validator's rules on numbers and limits are kept, the operands being of these kinds.
pub record StandsAt (o : Object) (instr : Instr) (here : size.Frame) (s : Stack) : Type 0 where
  pub lawful : IsObject o
  pub stack : IsStack o s.frames
  pub sizes : IsHere here s.frames
  pub next : HasNext s.frames
  pub ready : Applies (act_on o instr s.frames) s.room
  pub operands : AllByRecursion IsFormed (top_operands s.frames)
  pub cells : AllByRecursion IsFormed (top_cells s.frames)
  pub offers : (action : Action) (go : Answer → List Frame) → act_on o instr s.frames ≡ Offers action go → IsOffered o action
  pub literal : IsInstr instr
  pub code : Code
  pub kinds : Shape
  pub suits : AllZip (Suits o (routines_of s.frames)) kinds (top_operands s.frames)
  pub named : v1 o code instr ≡ true
  pub limits : v12 o code instr kinds ≡ true
