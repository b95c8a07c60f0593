-- Which code stands for an expression, for a variable, or for the arguments of a call: it stands from one place of the code up to another.
-- Operands are pushed from left to right, and an instruction that takes some stands behind all of them.
use Rattle.std.specs.Prelude.{◌≡◌, ℕ, ◌+◌, List, [], ◌∷◌, map, Option, Some, None, slice_get}
use Rattle.pearl_value.specs.declared.kind.CellKind.{CellKind}
use Rattle.pearl_value.specs.declared.kind.CellKind.TheVariants.{Plain, RefTo}
use Rattle.pearl_value.specs.declared.cell.Cell.{Cell}
use Rattle.pearl_program.specs.declared.expression.Target.{Target}
use Rattle.pearl_program.specs.declared.expression.Target.TheVariants.{Leaf, Own, Param}
use Rattle.pearl_program.specs.declared.expression.Bound.{Bound}
use Rattle.pearl_program.specs.PlainExpressions.{PlainExpr, OfLiteral, OfRead, OfMonadic, OfDyadic, OfCall, OfNow, OfTry, PlainVariable, OfVariable, PlainExprs, NoExprs, MoreExprs, PlainArgument, OfValue, OfIdent, PlainArguments, NoArguments, MoreArguments}
use Rattle.pearl_program.specs.PlainPrograms.{PlainProcedure, PlainProg}
use Rattle.pearl_program.specs.Typing.{elements}
use Rattle.pearl_meaning.specs.Setting.{params_of}
use Rattle.pearl_instructions.specs.declared.instr.Bounds.{Bounds}
use Rattle.pearl_instructions.specs.declared.instr.Instr.{Instr}
use Rattle.pearl_instructions.specs.declared.instr.Instr.TheVariants as instr
use Rattle.pearl_instructions.specs.declared.object.Code.{Code}
use Rattle.pearl_instructions.specs.declared.object.Parts.{Parts as Object}
use Rattle.pearl_instructions.specs.Objects.{routine_at}

abbrev pub instructions_or_none : Option Code → List Instr
instructions_or_none None = []
instructions_or_none (Some code) = code.instructions

-- the instructions of a routine
abbrev pub code_of : Object → ℕ → List Instr
code_of o routine = instructions_or_none (routine_at o routine)

abbrev pub bounds_of : Bound → Bounds
bounds_of bound = record { low = bound.lower; high = bound.upper }

-- the instruction that takes an offset off, or nothing where there are no subscripts, and pushes the value of the element
abbrev pub reading : Target → List Bound → Instr
reading (Leaf number) [] = instr.Read number
reading (Leaf number) (bound ∷ bounds) = instr.ReadAt number
reading (Own cell) [] = instr.Load cell
reading (Own cell) (bound ∷ bounds) = instr.LoadAt cell (elements (bound ∷ bounds))
reading (Param cell) bounds = instr.ReadRef

-- and the one that writes the value on top there
abbrev pub writing : Target → List Bound → Instr
writing (Leaf number) [] = instr.Write number
writing (Leaf number) (bound ∷ bounds) = instr.WriteAt number
writing (Own cell) [] = instr.Store cell
writing (Own cell) (bound ∷ bounds) = instr.StoreAt cell (elements (bound ∷ bounds))
writing (Param cell) bounds = instr.WriteRef

-- the instruction that takes an offset off, or nothing where there are no subscripts, and pushes a reference to the element
abbrev pub slot_reference : ℕ → List Bound → Instr
slot_reference number [] = instr.RefSlot number
slot_reference number (bound ∷ bounds) = instr.RefSlotAt number

abbrev pub cell_reference : ℕ → List Bound → Instr
cell_reference cell [] = instr.RefCell cell
cell_reference cell (bound ∷ bounds) = instr.RefCellAt cell (elements (bound ∷ bounds))

abbrev pub referring : Target → List Bound → Instr
referring (Leaf number) bounds = slot_reference number bounds
referring (Own cell) bounds = cell_reference cell bounds
referring (Param cell) bounds = instr.Load cell

-- at which places a part of the code may end that begins at another
abbrev pub Ends : Type 1
Ends = (to : ℕ) → Type 0

module _ (code : List Instr) where
  -- this instruction stands here
  abbrev pub Is : (place : ℕ) → Instr → Type 0
  Is place instr = slice_get code place ≡ Some instr

  -- one that pushes this value
  abbrev pub IsConst : (place : ℕ) → Cell → Type 0
  IsConst place value = Is place (instr.Const value)

  -- one that checks subscripts for these bounds, and pushes the offset
  abbrev pub IsIndex : (place : ℕ) → List Bound → Type 0
  IsIndex place bounds = Is place (instr.Index (map bounds_of bounds))

  -- the subscripts and their check, where there are some
  abbrev pub OffsetOf : (from : ℕ) → List Bound → (subscripts : Ends) → Ends
  OffsetOf from [] subscripts to = to ≡ from
  OffsetOf from (bound ∷ bounds) subscripts to = (end : ℕ) × subscripts end × IsIndex end (bound ∷ bounds) × (to ≡ end + 1)

  -- what lies below a value that is written to a variable, or alone where the variable is read: a reference, an offset, or nothing
  abbrev pub WayOf : (from : ℕ) → Target → List Bound → (subscripts : Ends) → Ends
  WayOf from (Leaf number) bounds subscripts to = OffsetOf from bounds subscripts to
  WayOf from (Own cell) bounds subscripts to = OffsetOf from bounds subscripts to
  WayOf from (Param cell) bounds subscripts to = Is from (instr.Load cell) × (to ≡ from + 1)

  -- the way to an element, and then its value
  abbrev pub ReadOf : (from : ℕ) → Target → List Bound → (subscripts : Ends) → Ends
  ReadOf from target bounds subscripts to =
      (end : ℕ) × WayOf from target bounds subscripts end × Is end (reading target bounds) × (to ≡ end + 1)

  -- a reference to an element
  abbrev pub ReferenceOf : (from : ℕ) → Target → List Bound → (subscripts : Ends) → Ends
  ReferenceOf from (Leaf number) bounds subscripts to =
      (end : ℕ) × OffsetOf from bounds subscripts end × Is end (slot_reference number bounds) × (to ≡ end + 1)
  ReferenceOf from (Own cell) bounds subscripts to =
      (end : ℕ) × OffsetOf from bounds subscripts end × Is end (cell_reference cell bounds) × (to ≡ end + 1)
  ReferenceOf from (Param cell) bounds subscripts to = Is from (instr.Load cell) × (to ≡ from + 1)

module _ (p : PlainProg) (code : List Instr) where
  -- the arguments for a procedure's parameters, and then the call
  abbrev pub CallOf : (procedure : ℕ) → (arguments : List CellKind → Ends) → Ends
  CallOf number arguments to =
      (procedure : PlainProcedure) × (slice_get p.procedures number ≡ Some procedure) ×
      (end : ℕ) × arguments (params_of procedure) end × Is code end (instr.Call number) × (to ≡ end + 1)

  abbrev mutual
    pub ExprAt : (from : ℕ) → PlainExpr → (to : ℕ) → Type 0
    ExprAt from (OfLiteral value) to = IsConst code from value × (to ≡ from + 1)
    ExprAt from (OfRead (OfVariable target bounds subscripts)) to = ReadOf code from target bounds (λ end. AllAt from subscripts end) to
    ExprAt from (OfMonadic op operand) to = (end : ℕ) × ExprAt from operand end × Is code end (instr.Monadic op) × (to ≡ end + 1)
    ExprAt from (OfDyadic op left right) to =
        (middle : ℕ) × (end : ℕ) × ExprAt from left middle × ExprAt middle right end × Is code end (instr.Dyadic op) × (to ≡ end + 1)
    ExprAt from (OfCall procedure arguments) to = CallOf procedure (λ params end. ArgumentsAt from params arguments end) to
    ExprAt from OfNow to = Is code from instr.Now × (to ≡ from + 1)
    ExprAt from (OfTry semaphore) to = Is code from (instr.Try semaphore) × (to ≡ from + 1)

    -- each of the expressions in order
    pub AllAt : (from : ℕ) → PlainExprs → (to : ℕ) → Type 0
    AllAt from NoExprs to = to ≡ from
    AllAt from (MoreExprs e rest) to = (middle : ℕ) × ExprAt from e middle × AllAt middle rest to

    -- each of the arguments for its parameter, in order
    pub ArgumentsAt : (from : ℕ) → List CellKind → PlainArguments → (to : ℕ) → Type 0
    ArgumentsAt from [] NoArguments to = to ≡ from
    ArgumentsAt from (param ∷ params) (MoreArguments argument rest) to =
        (middle : ℕ) × ArgumentAt from param argument middle × ArgumentsAt middle params rest to
    ArgumentsAt from _ _ to = ⊥

    -- a value is converted, and of a variable there is a reference
    pub ArgumentAt : (from : ℕ) → CellKind → PlainArgument → (to : ℕ) → Type 0
    ArgumentAt from (Plain kind) (OfValue e) to = (end : ℕ) × ExprAt from e end × Is code end (instr.Conv kind) × (to ≡ end + 1)
    ArgumentAt from (RefTo kind) (OfIdent (OfVariable target bounds subscripts)) to =
        ReferenceOf code from target bounds (λ end. AllAt from subscripts end) to
    ArgumentAt from _ _ to = ⊥

  -- FOR STATEMENTS

  abbrev pub OffsetAt : (from : ℕ) → PlainVariable → (to : ℕ) → Type 0
  OffsetAt from (OfVariable target bounds subscripts) to = OffsetOf code from bounds (λ end. AllAt from subscripts end) to

  abbrev pub WayAt : (from : ℕ) → PlainVariable → (to : ℕ) → Type 0
  WayAt from (OfVariable target bounds subscripts) to = WayOf code from target bounds (λ end. AllAt from subscripts end) to

  abbrev pub CallAt : (from procedure : ℕ) → PlainArguments → (to : ℕ) → Type 0
  CallAt from number arguments to = CallOf number (λ params end. ArgumentsAt from params arguments end) to

-- the instruction that writes the value on top to a variable
abbrev pub writing_to : PlainVariable → Instr
writing_to (OfVariable target bounds subscripts) = writing target bounds
