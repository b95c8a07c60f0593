-- What the validator's rules read of an instruction, and the operands that its bytes and its listing have.
use Rattle.std.specs.Prelude.{◌≡◌, ℕ, List, [], ◌∷◌, Option, Some, None, option_map, codes, map, slice_index_or, if◌then◌else◌}
use Rattle.pearl_instructions.specs.declared.instr.Instr.{Instr}
use Rattle.pearl_instructions.specs.Offers.{as_start, start_or_free}
use Rattle.pearl_instructions.specs.Opcodes.{Opcode, Held, NothingHeld, Literal, Names, NoName, ALeaf, AProcedure, ASemaphore, Semaphores, ATask, ATaskWhen, AWhen, AnInterrupt, AWriter, AReader, AnInput, AnOutput, Cells, NoCells, AnyCell, OneCell, ManyCells, LoopCells, ReadCells, Targets, NoTarget, Target, AnyTarget, Takes, These, Arguments, OwnResult, Values, Exact, KindOfLeaf, KindSent, KindsOfParameters, CellsOf, Operation, Conversion, Pushes, OfCell, OfLeaf, ToCell, ToLeaf, OfProcedure, OfInput, Limits, OfSemaphores, OfValues, OfCells, opcode}
use Rattle.pearl_instructions.specs.Opcodes as columns
use Rattle.pearl_object.specs.Instructions.{Operand, OfNumber, OfKind, OfLiteral, OfNumbers, OfBounds, OfOnce, OfMaybe, OfStart, row, opcode_of}
use Rattle.pearl_object.specs.CodeRows.{letters, is_one_of}

-- ---- what each column names, if anything

abbrev pub held_literal : Held → Option Operand
held_literal (Literal x) = Some (OfLiteral x)
held_literal _ = None

abbrev pub held_kind : Held → Option Operand
held_kind (columns.OfKind of) = Some (OfKind of)
held_kind _ = None

abbrev pub named_leaf : Names → Option Operand
named_leaf (ALeaf v) = Some (OfNumber v)
named_leaf _ = None

abbrev pub named_procedure : Names → Option Operand
named_procedure (AProcedure p) = Some (OfNumber p)
named_procedure _ = None

abbrev pub named_task : Names → Option Operand
named_task (ATask t) = Some (OfNumber t)
named_task (ATaskWhen t when) = Some (OfNumber t)
named_task _ = None

abbrev pub named_start : Names → Option Operand
named_start (ATaskWhen t when) = Some (OfStart when)
named_start (AWhen when) = Some (OfStart when)
named_start _ = None

abbrev pub named_semaphore : Names → Option Operand
named_semaphore (ASemaphore s) = Some (OfNumber s)
named_semaphore _ = None

abbrev pub named_semaphores : Names → Option Operand
named_semaphores (Semaphores list) = Some (OfNumbers list)
named_semaphores _ = None

abbrev pub named_device : Names → Option Operand
named_device (AnInterrupt d) = Some (OfNumber d)
named_device (AWriter d format) = Some (OfNumber d)
named_device (AReader d) = Some (OfNumber d)
named_device (AnInput d) = Some (OfNumber d)
named_device (AnOutput d) = Some (OfNumber d)
named_device _ = None

abbrev pub named_format : Names → Option Operand
named_format (AWriter d format) = Some (OfNumber format)
named_format _ = None

abbrev pub first_cell : Cells → Option Operand
first_cell NoCells = None
first_cell (AnyCell c) = Some (OfNumber c)
first_cell (OneCell c) = Some (OfNumber c)
first_cell (ManyCells c n) = Some (OfNumber c)
first_cell (LoopCells c) = Some (OfNumber c)
first_cell (ReadCells c format) = Some (OfNumber c)

abbrev pub cell_count : Cells → Option Operand
cell_count (ManyCells c n) = Some (OfNumber n)
cell_count _ = None

abbrev pub format_of_cells : Cells → Option Operand
format_of_cells (ReadCells c format) = Some (OfNumber format)
format_of_cells _ = None

abbrev pub target : Targets → Option Operand
target (Target i) = Some (OfNumber i)
target _ = None

abbrev pub target_list : Targets → Option Operand
target_list (AnyTarget list) = Some (OfNumbers list)
target_list _ = None

abbrev pub callee_of_arguments : Takes → Option Operand
callee_of_arguments (Arguments p) = Some (OfNumber p)
callee_of_arguments _ = None

abbrev pub format_of_values : Takes → Option Operand
format_of_values (Values format) = Some (OfNumber format)
format_of_values _ = None

abbrev pub exact_leaf : Exact → Option Operand
exact_leaf (KindOfLeaf v) = Some (OfNumber v)
exact_leaf _ = None

abbrev pub exact_device : Exact → Option Operand
exact_device (KindSent d) = Some (OfNumber d)
exact_device _ = None

abbrev pub exact_callee : Exact → Option Operand
exact_callee (KindsOfParameters p) = Some (OfNumber p)
exact_callee _ = None

abbrev pub exact_kind : Exact → Option Operand
exact_kind (CellsOf of) = Some (OfKind of)
exact_kind _ = None

abbrev pub converted_kind : Operation → Option Operand
converted_kind (Conversion to) = Some (OfKind to)
converted_kind _ = None

abbrev pub pushed_cell : Pushes → Option Operand
pushed_cell (OfCell c) = Some (OfNumber c)
pushed_cell (ToCell c) = Some (OfNumber c)
pushed_cell _ = None

abbrev pub pushed_leaf : Pushes → Option Operand
pushed_leaf (OfLeaf v) = Some (OfNumber v)
pushed_leaf (ToLeaf v) = Some (OfNumber v)
pushed_leaf _ = None

abbrev pub pushed_result : Pushes → Option Operand
pushed_result (OfProcedure p) = Some (OfNumber p)
pushed_result _ = None

abbrev pub pushed_input : Pushes → Option Operand
pushed_input (OfInput d) = Some (OfNumber d)
pushed_input _ = None

abbrev pub called : Option ℕ → Option Operand
called calls = option_map OfNumber calls

abbrev pub limited_semaphores : Limits → Option Operand
limited_semaphores (OfSemaphores list) = Some (OfNumbers list)
limited_semaphores _ = None

abbrev pub limited_bounds : Limits → Option Operand
limited_bounds (columns.OfBounds list) = Some (OfBounds list)
limited_bounds _ = None

abbrev pub limited_format : Limits → Option Operand
limited_format (OfValues format) = Some (OfNumber format)
limited_format (OfCells c format) = Some (OfNumber format)
limited_format _ = None

abbrev pub limited_cell : Limits → Option Operand
limited_cell (OfCells c format) = Some (OfNumber c)
limited_cell _ = None

-- ---- the letters of operands that the rules read, and where they read them

pub record Reading : Type 0 where
  pub set : List ℕ
  pub names : Opcode → List (Option Operand)

-- a trap's cause, a repetition and whether there is a priority are read by no rule but as kinds on the stack
abbrev pub readings : List Reading
readings =
    record { set = codes "L"; names = λ o. held_literal o.holds ∷ [] }
    ∷ record { set = codes "k"; names = λ o. held_kind o.holds ∷ exact_kind o.exact ∷ converted_kind o.operation ∷ [] }
    ∷ record { set = codes "c"; names = λ o. first_cell o.cells ∷ pushed_cell o.pushes ∷ limited_cell o.limits ∷ [] }
    ∷ record { set = codes "n"; names = λ o. cell_count o.cells ∷ [] }
    ∷ record { set = codes "v"; names = λ o. named_leaf o.names ∷ exact_leaf o.exact ∷ pushed_leaf o.pushes ∷ [] }
    ∷ record { set = codes "i"; names = λ o. target o.targets ∷ [] }
    ∷ record { set = codes "I"; names = λ o. target_list o.targets ∷ [] }
    ∷ record { set = codes "p"; names = λ o. named_procedure o.names ∷ callee_of_arguments o.takes ∷ exact_callee o.exact ∷ pushed_result o.pushes ∷ called o.calls ∷ [] }
    ∷ record { set = codes "t"; names = λ o. named_task o.names ∷ [] }
    ∷ record { set = codes "abe"; names = λ o. named_start o.names ∷ [] }
    ∷ record { set = codes "s"; names = λ o. named_semaphore o.names ∷ [] }
    ∷ record { set = codes "S"; names = λ o. named_semaphores o.names ∷ limited_semaphores o.limits ∷ [] }
    ∷ record { set = codes "d"; names = λ o. named_device o.names ∷ exact_device o.exact ∷ pushed_input o.pushes ∷ [] }
    ∷ record { set = codes "f"; names = λ o. named_format o.names ∷ format_of_cells o.cells ∷ format_of_values o.takes ∷ limited_format o.limits ∷ [] }
    ∷ record { set = codes "x"; names = λ o. limited_bounds o.limits ∷ [] }
    ∷ []

-- ---- the law

-- an operand as the rules see it: when something is to happen is one word for them
abbrev pub seen : Operand → Operand
seen (OfMaybe form) = OfStart (start_or_free form)
seen (OfOnce form) = OfStart (as_start form)
seen other = other

-- the operand that stands under one of these letters
abbrev pub under : List ℕ → List ℕ → List Operand → Option Operand
under set (letter ∷ more) (operand ∷ operands) = if is_one_of set letter then Some (seen operand) else under set more operands
under set _ _ = None

abbrev pub operand_under : Instr → List ℕ → Option Operand
operand_under i set = under set (slice_index_or letters (opcode_of i) []) (row i).operands

abbrev pub said_or : Option Operand → Option Operand → Option Operand
said_or None other = other
said_or (Some operand) other = Some operand

abbrev pub first_said : List (Option Operand) → Option Operand
first_said [] = None
first_said (one ∷ more) = said_or one (first_said more)

-- What a column names is the operand under its letter, and each such operand is named by a column.
pub record ColumnsAgree (i : Instr) : Type 0 where
  pub each : map (λ (r : Reading). map (λ one. said_or one (operand_under i r.set)) (r.names (opcode i))) readings
      ≡ map (λ (r : Reading). map (λ (one : Option Operand). operand_under i r.set) (r.names (opcode i))) readings
  pub all : map (λ (r : Reading). first_said (r.names (opcode i))) readings ≡ map (λ (r : Reading). operand_under i r.set) readings
