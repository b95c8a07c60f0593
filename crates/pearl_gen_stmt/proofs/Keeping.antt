-- Code of expressions that stands still stands as pending jumps get their places and more is emitted behind it.
use Rattle.std.proofs.Common.{◌≡◌, ℕ, List, [], ◌∷◌, None, map, refl}
use Rattle.pearl_value.specs.declared.kind.CellKind.{CellKind}
use Rattle.pearl_value.specs.declared.kind.CellKind.TheVariants.{Plain, RefTo}
use Rattle.pearl_program.specs.declared.expression.Target.{Target}
use Rattle.pearl_program.specs.declared.expression.Target.TheVariants.{Leaf as LeafOf, Own, Param}
use Rattle.pearl_program.specs.declared.expression.Bound.{Bound}
use Rattle.pearl_program.specs.PlainExpressions.{PlainExpr, OfLiteral, OfRead, OfMonadic, OfDyadic, OfCall, OfNow, OfTry, PlainVariable, OfVariable, PlainExprs, NoExprs, MoreExprs, PlainArgument, OfValue, OfIdent, PlainArguments, NoArguments, MoreArguments}
use Rattle.pearl_program.specs.PlainPrograms.{PlainProg}
use Rattle.pearl_instructions.specs.declared.instr.Instr.{Instr}
use Rattle.pearl_instructions.specs.declared.instr.Instr.TheVariants as instr
use Rattle.pearl_gen_expr.specs.ExprCode.{reading, writing, writing_to, slot_reference, cell_reference, bounds_of, OffsetOf, WayOf, ReadOf, ReferenceOf, ExprAt, AllAt, ArgumentsAt, ArgumentAt, OffsetAt, WayAt, CallAt}
use Rattle.pearl_gen_stmt.specs.StmtCode.{writing_at}
use Rattle.pearl_gen_stmt.specs.Emission.{pending, Stays}

reading_known : (target : Target) (bounds : List Bound) → pending (reading target bounds) ≡ None
reading_known (LeafOf number) [] = refl
reading_known (LeafOf number) (bound ∷ bounds) = refl
reading_known (Own cell) [] = refl
reading_known (Own cell) (bound ∷ bounds) = refl
reading_known (Param cell) bounds = refl

writing_known : (target : Target) (bounds : List Bound) → pending (writing target bounds) ≡ None
writing_known (LeafOf number) [] = refl
writing_known (LeafOf number) (bound ∷ bounds) = refl
writing_known (Own cell) [] = refl
writing_known (Own cell) (bound ∷ bounds) = refl
writing_known (Param cell) bounds = refl

pub writing_to_known : (variable : PlainVariable) → pending (writing_to variable) ≡ None
writing_to_known (OfVariable target bounds subscripts) = writing_known target bounds

pub writing_at_known : (target : Target) (bounds : List Bound) → pending (writing_at target bounds) ≡ None
writing_at_known (LeafOf number) bounds = refl
writing_at_known (Own cell) bounds = refl
writing_at_known (Param cell) bounds = refl

slot_known : (number : ℕ) (bounds : List Bound) → pending (slot_reference number bounds) ≡ None
slot_known number [] = refl
slot_known number (bound ∷ bounds) = refl

cell_known : (cell : ℕ) (bounds : List Bound) → pending (cell_reference cell bounds) ≡ None
cell_known cell [] = refl
cell_known cell (bound ∷ bounds) = refl

module _ (old new : List Instr) (stays : Stays old new) where
  module _ (one two : ℕ → Type 0) (on : (end : ℕ) → one end → two end) where
    kept_offset_of : (bounds : List Bound) (from to : ℕ) → OffsetOf old from bounds one to → OffsetOf new from bounds two to
    kept_offset_of [] from to is = is
    kept_offset_of (bound ∷ bounds) from to is = (is.0, on is.0 is.1, stays is.0 (instr.Index (map bounds_of (bound ∷ bounds))) is.2 refl, is.3)

    kept_way_of : (target : Target) (bounds : List Bound) (from to : ℕ) → WayOf old from target bounds one to → WayOf new from target bounds two to
    kept_way_of (LeafOf number) bounds from to is = kept_offset_of bounds from to is
    kept_way_of (Own first) bounds from to is = kept_offset_of bounds from to is
    kept_way_of (Param first) bounds from to is = (stays from (instr.Load first) is.0 refl, is.1)

    kept_read : (target : Target) (bounds : List Bound) (from to : ℕ) → ReadOf old from target bounds one to → ReadOf new from target bounds two to
    kept_read target bounds from to is =
        (is.0, kept_way_of target bounds from is.0 is.1, stays is.0 (reading target bounds) is.2 (reading_known target bounds), is.3)

    kept_reference : (target : Target) (bounds : List Bound) (from to : ℕ) → ReferenceOf old from target bounds one to → ReferenceOf new from target bounds two to
    kept_reference (LeafOf number) bounds from to is =
        (is.0, kept_offset_of bounds from is.0 is.1, stays is.0 (slot_reference number bounds) is.2 (slot_known number bounds), is.3)
    kept_reference (Own first) bounds from to is =
        (is.0, kept_offset_of bounds from is.0 is.1, stays is.0 (cell_reference first bounds) is.2 (cell_known first bounds), is.3)
    kept_reference (Param first) bounds from to is = (stays from (instr.Load first) is.0 refl, is.1)

module _ (p : PlainProg) (old new : List Instr) (stays : Stays old new) where
  mutual
    pub kept_expr : (e : PlainExpr) (from to : ℕ) → ExprAt p old from e to → ExprAt p new from e to
    kept_expr (OfLiteral value) from to is = (stays from (instr.Const value) is.0 refl, is.1)
    kept_expr (OfRead (OfVariable target bounds subscripts)) from to is =
        kept_read old new stays (λ end. AllAt p old from subscripts end) (λ end. AllAt p new from subscripts end) (λ end are. kept_all subscripts from end are) target bounds from to is
    kept_expr (OfMonadic op operand) from to is = (is.0, kept_expr operand from is.0 is.1, stays is.0 (instr.Monadic op) is.2 refl, is.3)
    kept_expr (OfDyadic op left right) from to is =
        (is.0, is.1, kept_expr left from is.0 is.2, kept_expr right is.0 is.1 is.3, stays is.1 (instr.Dyadic op) is.4 refl, is.5)
    kept_expr (OfCall number arguments) from to is =
        (is.0, is.1, is.2, kept_arguments arguments _ from is.2 is.3, stays is.2 (instr.Call number) is.4 refl, is.5)
    kept_expr OfNow from to is = (stays from instr.Now is.0 refl, is.1)
    kept_expr (OfTry semaphore) from to is = (stays from (instr.Try semaphore) is.0 refl, is.1)

    pub kept_all : (es : PlainExprs) (from to : ℕ) → AllAt p old from es to → AllAt p new from es to
    kept_all NoExprs from to is = is
    kept_all (MoreExprs e rest) from to is = (is.0, kept_expr e from is.0 is.1, kept_all rest is.0 to is.2)

    pub kept_arguments : (arguments : PlainArguments) (params : List CellKind) (from to : ℕ) → ArgumentsAt p old from params arguments to → ArgumentsAt p new from params arguments to
    kept_arguments NoArguments [] from to is = is
    kept_arguments NoArguments (param ∷ params) from to is = absurd is
    kept_arguments (MoreArguments argument rest) [] from to is = absurd is
    kept_arguments (MoreArguments argument rest) (param ∷ params) from to is =
        (is.0, kept_argument argument param from is.0 is.1, kept_arguments rest params is.0 to is.2)

    kept_argument : (argument : PlainArgument) (param : CellKind) (from to : ℕ) → ArgumentAt p old from param argument to → ArgumentAt p new from param argument to
    kept_argument (OfValue e) (Plain kind) from to is = (is.0, kept_expr e from is.0 is.1, stays is.0 (instr.Conv kind) is.2 refl, is.3)
    kept_argument (OfValue e) (RefTo kind) from to is = absurd is
    kept_argument (OfIdent variable) (Plain kind) from to is = absurd is
    kept_argument (OfIdent (OfVariable target bounds subscripts)) (RefTo kind) from to is =
        kept_reference old new stays (λ end. AllAt p old from subscripts end) (λ end. AllAt p new from subscripts end) (λ end are. kept_all subscripts from end are) target bounds from to is

  pub kept_offset : (variable : PlainVariable) (from to : ℕ) → OffsetAt p old from variable to → OffsetAt p new from variable to
  kept_offset (OfVariable target bounds subscripts) from to is =
      kept_offset_of old new stays (λ end. AllAt p old from subscripts end) (λ end. AllAt p new from subscripts end) (λ end are. kept_all subscripts from end are) bounds from to is

  pub kept_way : (variable : PlainVariable) (from to : ℕ) → WayAt p old from variable to → WayAt p new from variable to
  kept_way (OfVariable target bounds subscripts) from to is =
      kept_way_of old new stays (λ end. AllAt p old from subscripts end) (λ end. AllAt p new from subscripts end) (λ end are. kept_all subscripts from end are) target bounds from to is

  pub kept_call : (number : ℕ) (arguments : PlainArguments) (from to : ℕ) → CallAt p old from number arguments to → CallAt p new from number arguments to
  kept_call number arguments from to is =
      (is.0, is.1, is.2, kept_arguments arguments _ from is.2 is.3, stays is.2 (instr.Call number) is.4 refl, is.5)
