-- What the validator asks of a part of the code: with this shape of operands before it, it has that shape behind it, and no rule fails
-- in it.
use Rattle.std.specs.Prelude.{◌≡◌, ◌⊎◌, ℕ, ◌+◌, ◌<◌, ◌≤◌, true, false, List, [], ◌∷◌, ◌++◌, length, map, Some, None, slice_get, unwrap_or}
use Rattle.pearl_value.specs.declared.kind.Kind.{Kind}
use Rattle.pearl_value.specs.declared.kind.Kind.TheVariants as kind_
use Rattle.pearl_value.specs.declared.kind.CellKind.{CellKind}
use Rattle.pearl_value.specs.declared.kind.CellKind.TheVariants.{Plain, RefTo}
use Rattle.pearl_program.specs.declared.expression.Target.{Target}
use Rattle.pearl_program.specs.declared.expression.Target.TheVariants.{Param}
use Rattle.pearl_program.specs.declared.expression.Bound.{Bound}
use Rattle.pearl_program.specs.PlainExpressions.{PlainExpr, OfVariable, PlainExprs, PlainArguments}
use Rattle.pearl_program.specs.PlainPrograms.{PlainProcedure, PlainProg}
use Rattle.pearl_program.specs.Typing.{Around, HasKind, IsVariable, Suit, HaveKinds}
use Rattle.pearl_program.specs.Sound.{IsSound}
use Rattle.pearl_program.specs.Weights.{calls, values, callees, of_expr, of_exprs, of_arguments}
use Rattle.pearl_meaning.specs.Setting.{params_of}
use Rattle.pearl_instructions.specs.declared.object.Code.{Code}
use Rattle.pearl_instructions.specs.declared.object.Procedure.{Procedure}
use Rattle.pearl_instructions.specs.declared.object.Parts.{Parts as Object}
use Rattle.pearl_instructions.specs.Objects.{is_task}
use Rattle.pearl_instructions.specs.Operands.{Shape}
use Rattle.pearl_instructions.specs.Valid.{is_named, stated, shape_before, judged_at, result_shape}
use Rattle.pearl_gen_expr.specs.Tables.{HasTables}
use Rattle.pearl_gen_expr.specs.ExprCode.{Is, writing, ExprAt, AllAt, CallAt, OffsetAt, WayAt}
use Rattle.pearl_gen_expr.specs.Calls.{IsAroundIn}

-- no jump leads here, and no shape is stated
pub record IsQuiet (code : Code) (place : ℕ) : Type 0 where
  pub named : is_named code.instructions place ≡ false
  pub stated : stated code.shapes place ≡ None

-- that holds of all places behind the first up to the last
abbrev pub AreQuiet : Code → (from to : ℕ) → Type 0
AreQuiet code from to = (place : ℕ) → from < place → place ≤ to → IsQuiet code place

-- and of all places between the first and the last
abbrev pub IsQuietWithin : Code → (from to : ℕ) → Type 0
IsQuietWithin code from to = (place : ℕ) → from < place → place < to → IsQuiet code place

-- no shape is stated, and a jump leads here only where there is no operand
pub record IsOpen (code : Code) (place : ℕ) (s : Shape) : Type 0 where
  pub named : (is_named code.instructions place ≡ false) ⊎ (s ≡ [])
  pub stated : stated code.shapes place ≡ None

pub record Keeps (o : Object) (r : ℕ) (code : Code) (from to : ℕ) (before after : Shape) : Type 0 where
  pub forward : from ≤ to
  pub shape : shape_before o r code from ≡ before → shape_before o r code to ≡ after
  pub sound : shape_before o r code from ≡ before → (i : ℕ) → from ≤ i → i < to → judged_at o r code i (slice_get code.instructions i) ≡ None

-- the depths that the procedures state
abbrev pub depths : Object → List ℕ
depths o = map (λ (procedure : Procedure). procedure.code.depth) o.procedures

-- Code of routine r stands for a part of a sound program that calls procedures below this number; the object has the program's tables.
pub record IsPlaced (o : Object) (r : ℕ) (code : Code) (p : PlainProg) (around : Around) (below : ℕ) : Type 0 where
  pub sound : IsSound p
  pub tables : HasTables p o
  pub stands : IsAroundIn p around
  pub cells : around.cells ≡ code.cells
  pub semaphores : around.semaphores ≡ length o.semaphores
  pub depth : code.depth ≤ 4096
  pub smaller : (is_task o r ≡ true) ⊎ (below ≤ r)

-- these kinds are pushed in order on a shape
abbrev pub handed : List CellKind → Shape → Shape
handed [] s = s
handed (k ∷ kinds) s = handed kinds (k ∷ s)

-- an offset lies on a shape where there are bounds
abbrev pub offset_shape : List Bound → Shape → Shape
offset_shape [] s = s
offset_shape (bound ∷ bounds) s = Plain (kind_.Fixed 31) ∷ s

-- what lies below a value that is written to a variable of this kind
abbrev pub way_shape : Target → List Bound → Kind → Shape → Shape
way_shape (Param cell) bounds kind s = RefTo kind ∷ s
way_shape target bounds kind s = offset_shape bounds s

-- the stated depth has room for so many values more, and then for so much in procedures that are called
abbrev pub HasRoom : Code → (values deepest : ℕ) → Shape → Type 0
HasRoom code values deepest s = length code.cells + length s + values + deepest ≤ code.depth

-- No procedure that is called states a greater depth than `deepest`.
module _ (o : Object) (r : ℕ) (code : Code) (p : PlainProg) (around : Around) (below deepest : ℕ) where
  -- behind an expression its value lies there
  abbrev pub ExprKeeps : Type 0
  ExprKeeps = (e : PlainExpr) (kind : Kind) (from to : ℕ) (s : Shape) → HasKind around e kind → of_expr calls e ≤ below →
      of_expr (callees (depths o)) e ≤ deepest → HasRoom code (of_expr values e) deepest s →
      AreQuiet code from to → ExprAt p code.instructions from e to → Keeps o r code from to s (Plain kind ∷ s)

  -- behind several expressions all of their values do
  abbrev pub AllKeep : Type 0
  AllKeep = (es : PlainExprs) (kinds : List Kind) (from to : ℕ) (s : Shape) → HaveKinds around es kinds → of_exprs calls es ≤ below →
      of_exprs (callees (depths o)) es ≤ deepest → HasRoom code (of_exprs values es) deepest s →
      AreQuiet code from to → AllAt p code.instructions from es to → Keeps o r code from to s (handed (map Plain kinds) s)

  -- behind a call its result does, if there is one; else a jump may lead there, where nothing lies below
  abbrev pub CallKeeps : Type 0
  CallKeeps = (number : ℕ) (procedure : PlainProcedure) (arguments : PlainArguments) (from to : ℕ) (s : Shape) →
      slice_get p.procedures number ≡ Some procedure → Suit around (params_of procedure) arguments →
      number + 1 ≤ below → of_arguments calls arguments ≤ below →
      unwrap_or (slice_get (depths o) number) 0 ≤ deepest → of_arguments (callees (depths o)) arguments ≤ deepest →
      HasRoom code (of_arguments values arguments) deepest s →
      IsQuietWithin code from to → IsOpen code to (result_shape procedure.result ++ s) →
      CallAt p code.instructions from number arguments to → Keeps o r code from to s (result_shape procedure.result ++ s)

  -- behind the subscripts of a variable the offset does
  abbrev pub OffsetKeeps : Type 0
  OffsetKeeps = (target : Target) (bounds : List Bound) (subscripts : PlainExprs) (kind : Kind) (from to : ℕ) (s : Shape) →
      let variable = OfVariable target bounds subscripts in
      IsVariable around variable kind → of_exprs calls subscripts ≤ below → of_exprs (callees (depths o)) subscripts ≤ deepest →
      HasRoom code (of_exprs values subscripts) deepest s →
      AreQuiet code from to → OffsetAt p code.instructions from variable to → Keeps o r code from to s (offset_shape bounds s)

  -- behind the way to a variable there lies what is needed to write a value to it
  abbrev pub WayKeeps : Type 0
  WayKeeps = (target : Target) (bounds : List Bound) (subscripts : PlainExprs) (kind : Kind) (from to : ℕ) (s : Shape) →
      let variable = OfVariable target bounds subscripts in
      IsVariable around variable kind → of_exprs calls subscripts ≤ below → of_exprs (callees (depths o)) subscripts ≤ deepest →
      HasRoom code (of_exprs values subscripts + 1) deepest s →
      AreQuiet code from to → WayAt p code.instructions from variable to → Keeps o r code from to s (way_shape target bounds kind s)

  -- and a value of just its kind that lies on that is written there; a jump may lead behind that where nothing lies below
  abbrev pub WritingKeeps : Type 0
  WritingKeeps = (target : Target) (bounds : List Bound) (subscripts : PlainExprs) (kind : Kind) (place : ℕ) (s : Shape) →
      IsVariable around (OfVariable target bounds subscripts) kind → HasRoom code 2 deepest s →
      IsOpen code (place + 1) s → Is code.instructions place (writing target bounds) →
      Keeps o r code place (place + 1) (Plain kind ∷ way_shape target bounds kind s) s

-- No rule fails in the code of an expression where the stated depth has room for its values and for the procedures that it calls.
pub record CodeKeeps (o : Object) (r : ℕ) (code : Code) (p : PlainProg) (around : Around) (below deepest : ℕ) : Type 0 where
  pub expr : ExprKeeps o r code p around below deepest
  pub all : AllKeep o r code p around below deepest
  pub call : CallKeeps o r code p around below deepest
  pub offset : OffsetKeeps o r code p around below deepest
  pub way : WayKeeps o r code p around below deepest
  pub write : WritingKeeps o r code p around below deepest

abbrev pub ExpressionsKeep : Type 0
ExpressionsKeep = (o : Object) (r : ℕ) (code : Code) (p : PlainProg) (around : Around) (below deepest : ℕ) → IsPlaced o r code p around below →
    CodeKeeps o r code p around below deepest
