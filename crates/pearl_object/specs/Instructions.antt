-- How instructions are spelled: a byte and operands, a row for each in the order of the opcodes.
use Rattle.std.specs.Prelude.{ℕ, ◌-◌, nat_le, Bool, true, false, List, [], ◌∷◌, ◌++◌, Option, None}
use Rattle.pearl_value.specs.declared.kind.Kind.{Kind}
use Rattle.pearl_value.specs.declared.kind.Kind.TheVariants as kinds
use Rattle.pearl_value.specs.declared.cell.Cell.{Cell}
use Rattle.pearl_value.specs.declared.cell.Cell.TheVariants as cells
use Rattle.pearl_value.specs.declared.trap.Trap.{Trap as Cause}
use Rattle.pearl_value.specs.declared.trap.Trap.TheVariants.{Overflow}
use Rattle.pearl_value.specs.declared.operator.Monad.{Monad}
use Rattle.pearl_value.specs.declared.operator.Monad.TheVariants.{Plus, Minus, Abs, Sign, Not}
use Rattle.pearl_value.specs.declared.operator.Dyad.{Dyad}
use Rattle.pearl_value.specs.declared.operator.Dyad.TheVariants.{Pow, Mul, Div, Rem, Cat, Add, Sub, Cshift, Shift, Lt, Gt, Le, Ge, Eq, Ne, And, Or, Exor}
use Rattle.pearl_instructions.specs.declared.schedule.OnceForm.{OnceForm}
use Rattle.pearl_instructions.specs.declared.schedule.OnceForm.TheVariants as once_form
use Rattle.pearl_instructions.specs.declared.schedule.StartForm.{StartForm}
use Rattle.pearl_instructions.specs.declared.schedule.StartForm.TheVariants.{Free}
use Rattle.pearl_instructions.specs.declared.schedule.RepeatForm.{RepeatForm}
use Rattle.pearl_instructions.specs.declared.schedule.RepeatForm.TheVariants as repeat_form
use Rattle.pearl_instructions.specs.declared.instr.Bounds.{Bounds}
use Rattle.pearl_instructions.specs.declared.instr.Instr.{Instr}
use Rattle.pearl_instructions.specs.declared.instr.Instr.TheVariants.{Const, Load, Store, Fill, Drop, Conv, Index, LoadAt, StoreAt, Read, Write, ReadAt, WriteAt, RefSlot, RefSlotAt, RefCell, RefCellAt, ReadRef, WriteRef, Jump, JumpZero, Case, Turn, Call, Return, End, Trap, Within, Advance, NonZero, Monadic, Dyadic, Now, Request, Release, Try, Activate, Continue, Resume, Suspend, Terminate, Prevent, SuspendOwn, TerminateOwn, PreventOwn, Enable, Disable, Trigger, Put, Get, Take, Send}
use Rattle.pearl_fields.specs.Codec.{Codec, nothing, shaped, pair, keyed, arm_at, list_of, byte_in, number}
use Rattle.pearl_object.specs.Lists.{each}
use Rattle.pearl_object.specs.Kinds.{kind}
use Rattle.pearl_object.specs.Literals.{literal}
use Rattle.pearl_object.specs.Operands.{bounds, flag, trap, once, maybe_once, start, repetition}

pub data Operand : Type 0 where
  OfNumber : (n : ℕ) → Operand
  OfKind : (of : Kind) → Operand
  OfLiteral : (x : Cell) → Operand
  OfNumbers : (list : List ℕ) → Operand
  OfBounds : (list : List Bounds) → Operand
  OfCause : (cause : Cause) → Operand
  OfOnce : (form : OnceForm) → Operand
  OfMaybe : (form : Option OnceForm) → Operand
  OfStart : (form : StartForm) → Operand
  OfRepeat : (form : RepeatForm) → Operand
  OfFlag : (given : Bool) → Operand

pub record Row : Type 0 where
  pub opcode : ℕ
  pub operands : List Operand

abbrev pub op : ℕ → List Operand → Row
op t operands = record { opcode = t; operands = operands }

abbrev pub monad_code : Monad → ℕ
monad_code Plus = 30
monad_code Minus = 31
monad_code Abs = 32
monad_code Sign = 33
monad_code Not = 34

abbrev pub dyad_code : Dyad → ℕ
dyad_code Pow = 35
dyad_code Mul = 36
dyad_code Div = 37
dyad_code Rem = 38
dyad_code Cat = 39
dyad_code Add = 40
dyad_code Sub = 41
dyad_code Cshift = 42
dyad_code Shift = 43
dyad_code Lt = 44
dyad_code Gt = 45
dyad_code Le = 46
dyad_code Ge = 47
dyad_code Eq = 48
dyad_code Ne = 49
dyad_code And = 50
dyad_code Or = 51
dyad_code Exor = 52

-- each instruction's opcode and operands
abbrev pub row : Instr → Row
row (Const x) = op 0 (OfLiteral x ∷ [])
row (Load n) = op 1 (OfNumber n ∷ [])
row (Store n) = op 2 (OfNumber n ∷ [])
row (Fill c n of) = op 3 (OfNumber c ∷ OfNumber n ∷ OfKind of ∷ [])
row Drop = op 4 []
row (Conv of) = op 5 (OfKind of ∷ [])
row (Index list) = op 6 (OfBounds list ∷ [])
row (LoadAt m n) = op 7 (OfNumber m ∷ OfNumber n ∷ [])
row (StoreAt m n) = op 8 (OfNumber m ∷ OfNumber n ∷ [])
row (Read n) = op 9 (OfNumber n ∷ [])
row (Write n) = op 10 (OfNumber n ∷ [])
row (ReadAt n) = op 11 (OfNumber n ∷ [])
row (WriteAt n) = op 12 (OfNumber n ∷ [])
row (RefSlot n) = op 13 (OfNumber n ∷ [])
row (RefSlotAt n) = op 14 (OfNumber n ∷ [])
row (RefCell n) = op 15 (OfNumber n ∷ [])
row (RefCellAt m n) = op 16 (OfNumber m ∷ OfNumber n ∷ [])
row ReadRef = op 17 []
row WriteRef = op 18 []
row (Jump n) = op 19 (OfNumber n ∷ [])
row (JumpZero n) = op 20 (OfNumber n ∷ [])
row (Case list) = op 21 (OfNumbers list ∷ [])
row Turn = op 22 []
row (Call n) = op 23 (OfNumber n ∷ [])
row Return = op 24 []
row End = op 25 []
row (Trap cause) = op 26 (OfCause cause ∷ [])
row (Within n) = op 27 (OfNumber n ∷ [])
row (Advance m n) = op 28 (OfNumber m ∷ OfNumber n ∷ [])
row NonZero = op 29 []
row (Monadic o) = op (monad_code o) []
row (Dyadic o) = op (dyad_code o) []
row Now = op 53 []
row (Request list) = op 54 (OfNumbers list ∷ [])
row (Release list) = op 55 (OfNumbers list ∷ [])
row (Try n) = op 56 (OfNumber n ∷ [])
row (Activate a) = op 57 (OfNumber a.task ∷ OfStart a.start ∷ OfRepeat a.repeat ∷ OfFlag a.priority ∷ [])
row (Continue c) = op 58 (OfNumber c.task ∷ OfMaybe c.once ∷ [])
row (Resume form) = op 59 (OfOnce form ∷ [])
row (Suspend n) = op 60 (OfNumber n ∷ [])
row (Terminate n) = op 61 (OfNumber n ∷ [])
row (Prevent n) = op 62 (OfNumber n ∷ [])
row SuspendOwn = op 63 []
row TerminateOwn = op 64 []
row PreventOwn = op 65 []
row (Enable n) = op 66 (OfNumber n ∷ [])
row (Disable n) = op 67 (OfNumber n ∷ [])
row (Trigger n) = op 68 (OfNumber n ∷ [])
row (Put m n) = op 69 (OfNumber m ∷ OfNumber n ∷ [])
row (Get g) = op 70 (OfNumber g.device ∷ OfNumber g.format ∷ OfNumber g.first ∷ [])
row (Take n) = op 71 (OfNumber n ∷ [])
row (Send n) = op 72 (OfNumber n ∷ [])

abbrev pub operand_bytes : Operand → List ℕ
operand_bytes (OfNumber n) = number.bytes n
operand_bytes (OfKind of) = (kind None).bytes of
operand_bytes (OfLiteral x) = (literal None).bytes x
operand_bytes (OfNumbers list) = (list_of number).bytes list
operand_bytes (OfBounds list) = (each bounds).bytes list
operand_bytes (OfCause cause) = trap.bytes cause
operand_bytes (OfOnce form) = once.bytes form
operand_bytes (OfMaybe form) = maybe_once.bytes form
operand_bytes (OfStart form) = start.bytes form
operand_bytes (OfRepeat form) = repetition.bytes form
operand_bytes (OfFlag given) = flag.bytes given

-- what is written of the operands, one behind the other
abbrev pub joined : (Operand → List ℕ) → List Operand → List ℕ
joined text [] = []
joined text (o ∷ []) = text o
joined text (o ∷ p ∷ more) = text o ++ joined text (p ∷ more)

abbrev pub row_bytes : List Operand → List ℕ
row_bytes operands = joined operand_bytes operands

-- the instruction's literal, if it has one, is such a cell
abbrev pub literal_suits : (Cell → Type 0) → Instr → Type 0
literal_suits suits (Const x) = suits x
literal_suits suits _ = Unit {0}

-- the operands, each of the form that is asked for
abbrev pub number_in_row : List Operand → ℕ
number_in_row (OfNumber n ∷ _) = n
number_in_row _ = 0

abbrev pub kind_in_row : List Operand → Kind
kind_in_row (OfKind of ∷ _) = of
kind_in_row _ = kinds.Clock

abbrev pub literal_in_row : List Operand → Cell
literal_in_row (OfLiteral x ∷ _) = x
literal_in_row _ = cells.Clock 0

abbrev pub numbers_in_row : List Operand → List ℕ
numbers_in_row (OfNumbers list ∷ _) = list
numbers_in_row _ = []

abbrev pub bounds_in_row : List Operand → List Bounds
bounds_in_row (OfBounds list ∷ _) = list
bounds_in_row _ = []

abbrev pub cause_in_row : List Operand → Cause
cause_in_row (OfCause cause ∷ _) = cause
cause_in_row _ = Overflow

abbrev pub once_in_row : List Operand → OnceForm
once_in_row (OfOnce form ∷ _) = form
once_in_row _ = once_form.At

abbrev pub maybe_in_row : List Operand → Option OnceForm
maybe_in_row (OfMaybe form ∷ _) = form
maybe_in_row _ = None

abbrev pub start_in_row : List Operand → StartForm
start_in_row (OfStart form ∷ _) = form
start_in_row _ = Free

abbrev pub repeat_in_row : List Operand → RepeatForm
repeat_in_row (OfRepeat form ∷ _) = form
repeat_in_row _ = repeat_form.Once

abbrev pub flag_in_row : List Operand → Bool
flag_in_row (OfFlag given ∷ _) = given
flag_in_row _ = false

abbrev pub behind : List Operand → List Operand
behind (_ ∷ operands) = operands
behind [] = []

abbrev pub from_row : {A : Type 0} → (List Operand → A) → (A → Instr) → Codec A → Codec Instr
from_row take make c = shaped (λ i. take (row i).operands) make c

abbrev pub one_number : (ℕ → Instr) → Codec Instr
one_number make = from_row number_in_row make number

abbrev pub two_in_row : List Operand → ℕ × ℕ
two_in_row operands = (number_in_row operands, number_in_row (behind operands))

abbrev pub two_numbers : (ℕ → ℕ → Instr) → Codec Instr
two_numbers make = from_row two_in_row (λ p. make p.0 p.1) (pair number (λ n. number))

abbrev pub fill_in_row : List Operand → ℕ × (ℕ × Kind)
fill_in_row operands =
    (number_in_row operands, (number_in_row (behind operands), kind_in_row (behind (behind operands))))

abbrev pub fill_fields : Codec (ℕ × (ℕ × Kind))
fill_fields = pair number (λ first. pair number (λ count. kind None))

abbrev pub activation_in_row : List Operand → ℕ × (StartForm × (RepeatForm × Bool))
activation_in_row operands =
    (number_in_row operands, (start_in_row (behind operands), (repeat_in_row (behind (behind operands)), flag_in_row (behind (behind (behind operands))))))

abbrev pub activation_fields : Codec (ℕ × (StartForm × (RepeatForm × Bool)))
activation_fields = pair number (λ task. pair start (λ form. pair repetition (λ again. flag)))

abbrev pub made_activation : ℕ × (StartForm × (RepeatForm × Bool)) → Instr
made_activation p = Activate (record { task = p.0; start = p.1.0; repeat = p.1.1.0; priority = p.1.1.1 })

abbrev pub continuation_in_row : List Operand → ℕ × Option OnceForm
continuation_in_row operands = (number_in_row operands, maybe_in_row (behind operands))

abbrev pub continuation_fields : Codec (ℕ × Option OnceForm)
continuation_fields = pair number (λ task. maybe_once)

abbrev pub made_continuation : ℕ × Option OnceForm → Instr
made_continuation p = Continue (record { task = p.0; once = p.1 })

abbrev pub reading_in_row : List Operand → ℕ × (ℕ × ℕ)
reading_in_row operands =
    (number_in_row operands, (number_in_row (behind operands), number_in_row (behind (behind operands))))

abbrev pub reading_fields : Codec (ℕ × (ℕ × ℕ))
reading_fields = pair number (λ device. pair number (λ format. number))

abbrev pub made_reading : ℕ × (ℕ × ℕ) → Instr
made_reading p = Get (record { device = p.0; format = p.1.0; first = p.1.1 })

-- each row's operands, in the order of the opcodes
-- 0 to 8: operands and cells
abbrev pub on_cells : List (Codec Instr)
on_cells =
    from_row literal_in_row Const (literal None)
    ∷ one_number Load
    ∷ one_number Store
    ∷ from_row fill_in_row (λ p. Fill p.0 p.1.0 p.1.1) fill_fields
    ∷ nothing Drop
    ∷ from_row kind_in_row Conv (kind None)
    ∷ from_row bounds_in_row Index (each bounds)
    ∷ two_numbers LoadAt
    ∷ two_numbers StoreAt
    ∷ []

-- 9 to 18: module variables and references
abbrev pub on_variables : List (Codec Instr)
on_variables =
    one_number Read
    ∷ one_number Write
    ∷ one_number ReadAt
    ∷ one_number WriteAt
    ∷ one_number RefSlot
    ∷ one_number RefSlotAt
    ∷ one_number RefCell
    ∷ two_numbers RefCellAt
    ∷ nothing ReadRef
    ∷ nothing WriteRef
    ∷ []

-- 19 to 29: jumps, loops and procedures
abbrev pub on_flow : List (Codec Instr)
on_flow =
    one_number Jump
    ∷ one_number JumpZero
    ∷ from_row numbers_in_row Case (list_of number)
    ∷ nothing Turn
    ∷ one_number Call
    ∷ nothing Return
    ∷ nothing End
    ∷ from_row cause_in_row Trap trap
    ∷ one_number Within
    ∷ two_numbers Advance
    ∷ nothing NonZero
    ∷ []

-- 30 to 52: operators
abbrev pub operators : List (Codec Instr)
operators =
    nothing (Monadic Plus)
    ∷ nothing (Monadic Minus)
    ∷ nothing (Monadic Abs)
    ∷ nothing (Monadic Sign)
    ∷ nothing (Monadic Not)
    ∷ nothing (Dyadic Pow)
    ∷ nothing (Dyadic Mul)
    ∷ nothing (Dyadic Div)
    ∷ nothing (Dyadic Rem)
    ∷ nothing (Dyadic Cat)
    ∷ nothing (Dyadic Add)
    ∷ nothing (Dyadic Sub)
    ∷ nothing (Dyadic Cshift)
    ∷ nothing (Dyadic Shift)
    ∷ nothing (Dyadic Lt)
    ∷ nothing (Dyadic Gt)
    ∷ nothing (Dyadic Le)
    ∷ nothing (Dyadic Ge)
    ∷ nothing (Dyadic Eq)
    ∷ nothing (Dyadic Ne)
    ∷ nothing (Dyadic And)
    ∷ nothing (Dyadic Or)
    ∷ nothing (Dyadic Exor)
    ∷ []

-- 53 to 65: time, semaphores and tasks
abbrev pub on_tasks : List (Codec Instr)
on_tasks =
    nothing Now
    ∷ from_row numbers_in_row Request (list_of number)
    ∷ from_row numbers_in_row Release (list_of number)
    ∷ one_number Try
    ∷ from_row activation_in_row made_activation activation_fields
    ∷ from_row continuation_in_row made_continuation continuation_fields
    ∷ from_row once_in_row Resume once
    ∷ one_number Suspend
    ∷ one_number Terminate
    ∷ one_number Prevent
    ∷ nothing SuspendOwn
    ∷ nothing TerminateOwn
    ∷ nothing PreventOwn
    ∷ []

-- 66 to 72: devices
abbrev pub on_devices : List (Codec Instr)
on_devices =
    one_number Enable
    ∷ one_number Disable
    ∷ one_number Trigger
    ∷ two_numbers Put
    ∷ from_row reading_in_row made_reading reading_fields
    ∷ one_number Take
    ∷ one_number Send
    ∷ []

abbrev pub chosen : Bool → Codec Instr → Codec Instr → Codec Instr
chosen true c d = c
chosen false c d = d

-- the operands of the instruction with this opcode
unfoldable pub operands_at : ℕ → Codec Instr
operands_at t =
    chosen (nat_le t 8) (arm_at on_cells t)
    (chosen (nat_le t 18) (arm_at on_variables (t - 9))
    (chosen (nat_le t 29) (arm_at on_flow (t - 19))
    (chosen (nat_le t 52) (arm_at operators (t - 30))
    (chosen (nat_le t 65) (arm_at on_tasks (t - 53)) (arm_at on_devices (t - 66))))))

abbrev pub opcode_of : Instr → ℕ
opcode_of i = (row i).opcode

unfoldable pub instr : Codec Instr
instr = keyed opcode_of (byte_in 0 72) operands_at
