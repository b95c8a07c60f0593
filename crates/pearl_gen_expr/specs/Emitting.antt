-- What is emitted: new instructions stand behind the old ones, and a part's code stands there.
use Rattle.std.specs.Prelude.{◌≡◌, ℕ, ◌+◌, List, ◌++◌, length, Some, slice_get}
use Rattle.pearl_program.specs.PlainExpressions.{PlainExpr, PlainExprs, PlainArguments, PlainVariable, OfVariable, PlainArgument}
use Rattle.pearl_value.specs.declared.kind.CellKind.{CellKind}
use Rattle.pearl_program.specs.PlainPrograms.{PlainProcedure, PlainProg}
use Rattle.pearl_meaning.specs.Setting.{params_of}
use Rattle.pearl_instructions.specs.declared.instr.Instr.{Instr}
use Rattle.pearl_gen_expr.specs.ExprCode.{referring, Is, ExprAt, AllAt, ArgumentsAt, ArgumentAt, OffsetAt, WayAt, CallAt, ReadOf, ReferenceOf}

-- what was there stays
abbrev pub Extends : List Instr → List Instr → Type 0
Extends old new = (more : List Instr) × (new ≡ old ++ more)

-- from the end of the old instructions up to that of the new ones stands a part's code
abbrev pub Emits : (Stands : List Instr → (from to : ℕ) → Type 0) → List Instr → List Instr → Type 0
Emits Stands old new = Stands new (length old) (length new)

module _ (p : PlainProg) where
  abbrev pub EmitsExpr : PlainExpr → List Instr → List Instr → Type 0
  EmitsExpr e = Emits (λ code from to. ExprAt p code from e to)

  abbrev pub EmitsAll : PlainExprs → List Instr → List Instr → Type 0
  EmitsAll es = Emits (λ code from to. AllAt p code from es to)

  abbrev pub EmitsOffset : PlainVariable → List Instr → List Instr → Type 0
  EmitsOffset variable = Emits (λ code from to. OffsetAt p code from variable to)

  abbrev pub EmitsWay : PlainVariable → List Instr → List Instr → Type 0
  EmitsWay variable = Emits (λ code from to. WayAt p code from variable to)

  abbrev pub EmitsRead : PlainVariable → List Instr → List Instr → Type 0
  EmitsRead (OfVariable target bounds subscripts) =
      Emits (λ code from to. ReadOf code from target bounds (λ end. AllAt p code from subscripts end) to)

  -- a reference by an offset
  abbrev pub EmitsElement : PlainVariable → List Instr → List Instr → Type 0
  EmitsElement (OfVariable target bounds subscripts) = Emits (λ code from to.
      (end : ℕ) × OffsetAt p code from (OfVariable target bounds subscripts) end × Is code end (referring target bounds) × (to ≡ end + 1))

  abbrev pub EmitsReference : PlainVariable → List Instr → List Instr → Type 0
  EmitsReference (OfVariable target bounds subscripts) =
      Emits (λ code from to. ReferenceOf code from target bounds (λ end. AllAt p code from subscripts end) to)

  abbrev pub EmitsCall : (procedure : ℕ) → PlainArguments → List Instr → List Instr → Type 0
  EmitsCall number arguments = Emits (λ code from to. CallAt p code from number arguments to)

  abbrev pub EmitsArguments : List CellKind → PlainArguments → List Instr → List Instr → Type 0
  EmitsArguments params arguments = Emits (λ code from to. ArgumentsAt p code from params arguments to)

  abbrev pub EmitsArgument : CellKind → PlainArgument → List Instr → List Instr → Type 0
  EmitsArgument param argument = Emits (λ code from to. ArgumentAt p code from param argument to)

-- a procedure's parameters have these kinds
abbrev pub HasParameters : PlainProg → ℕ → List CellKind → Type 0
HasParameters p number params =
    (procedure : PlainProcedure) × (slice_get p.procedures number ≡ Some procedure) × (params_of procedure ≡ params)
