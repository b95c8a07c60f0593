-- What nodes of expressions say whose parts lie in boxes and lists.
use Rattle.std.proofs.Common.{◌≡◌, ℕ, ◌+◌, ◌<◌, ◌≤◌, List, [], ◌∷◌, length, take, drop, get_or, slice_get, Some, true, ltb-true, Box, Global, refl, sym, ap, ◌∙◌, subst, arith}
use Rattle.std.specs.Prelude.{option_map, ltb}
use Rattle.std.proofs.lemmas.Option.{slice_get-map, slice_get_read}
use Rattle.std.proofs.Math.ListN.{drop_of_length-le}
use mathlib.Core.Former.{Count}
use Rattle.pearl_value.specs.declared.kind.CellKind.{CellKind}
use Rattle.pearl_program.specs.declared.expression.Variable.{Variable, Row_of-Expr, end_of-Expr, more_of-Expr, items-the_row-Expr, items_hidden-the_row-Expr-0}
use Rattle.pearl_program.specs.declared.expression.Call.{Call, Row_of-Argument, end_of-Argument, more_of-Argument, items-the_row-Argument, items_hidden-the_row-Argument-1}
use Rattle.pearl_program.specs.declared.expression.Argument.{Argument}
use Rattle.pearl_program.specs.declared.expression.Argument as argument
use Rattle.pearl_program.specs.declared.program.Program.{Program}
use Rattle.pearl_program.specs.declared.program.Procedure.{Procedure}
use Rattle.pearl_program.specs.declared.expression.Expr.{Expr}
use Rattle.pearl_program.specs.declared.expression.Expr as expr
use Rattle.pearl_program.specs.PlainExpressions.{OfRead, OfCall, OfIdent, OfVariable, NoExprs, MoreExprs, NoArguments, MoreArguments, plain_expr, plain_row, plain_exprs, plain_argument, plain_argument_row, plain_arguments, plain_variable}
use Rattle.pearl_program.specs.PlainPrograms.{PlainProg, plain_prog, plain_procedure}
use Rattle.pearl_instructions.specs.declared.instr.Instr.{Instr}
use Rattle.pearl_gen_expr.specs.Emitting.{HasParameters, Extends, EmitsExpr, EmitsAll, EmitsArguments, EmitsArgument}
use Rattle.pearl_gen_expr.proofs.Emitted.{AllSoFar, ArgumentsSoFar, extends_self, all_next, arguments_next}
use Rattle.pearl_gen_expr.proofs.Counting.{one_left, some_left}

exprs_plain : (n : _) (row : Row_of-Expr n) → plain_row row ≡ plain_exprs (items-the_row-Expr n row)
exprs_plain _ end_of-Expr = refl
exprs_plain _ (more_of-Expr e rest) = ap (λ t. MoreExprs (plain_expr e) t) (exprs_plain _ rest)

arguments_plain : (n : _) (row : Row_of-Argument n) → plain_argument_row row ≡ plain_arguments (items-the_row-Argument n row)
arguments_plain _ end_of-Argument = refl
arguments_plain _ (more_of-Argument a rest) = ap (λ t. MoreArguments (plain_argument a) t) (arguments_plain _ rest)

abbrev subscripts_of : Expr → (n : Count) × Row_of-Expr n
subscripts_of (expr.Read' _ _ _ _ row) = (_, row)
subscripts_of _ = (_, end_of-Expr)

pub read_plain : (variable : Box Variable Global) → plain_expr (expr.Read variable) ≡ OfRead (plain_variable variable.value)
read_plain variable =
    let row = subscripts_of (expr.Read variable) in
    ap (λ t. OfRead (OfVariable variable.value.target variable.value.bounds.items t))
    (exprs_plain row.0 row.1 ∙ ap plain_exprs (items_hidden-the_row-Expr-0 variable.value.subscripts))

abbrev arguments_of : Expr → (n : Count) × Row_of-Argument n
arguments_of (expr.Call' _ _ _ row) = (_, row)
arguments_of _ = (_, end_of-Argument)

pub call_plain : (call : Box Call Global) → plain_expr (expr.Call call) ≡ OfCall call.value.procedure (plain_arguments call.value.arguments.items)
call_plain call =
    let row = arguments_of (expr.Call call) in
    ap (λ t. OfCall call.value.procedure t)
    (arguments_plain row.0 row.1 ∙ ap plain_arguments (items_hidden-the_row-Argument-1 call.value.arguments))

abbrev ident_subscripts : Argument → (n : Count) × Row_of-Expr n
ident_subscripts (argument.Ident' _ _ _ row) = (_, row)
ident_subscripts _ = (_, end_of-Expr)

pub ident_plain : (variable : Variable) → plain_argument (argument.Ident variable) ≡ OfIdent (plain_variable variable)
ident_plain variable =
    let row = ident_subscripts (argument.Ident variable) in
    ap (λ t. OfIdent (OfVariable variable.target variable.bounds.items t))
    (exprs_plain row.0 row.1 ∙ ap plain_exprs (items_hidden-the_row-Expr-0 variable.subscripts))

-- PROCEDURES

pub has_parameters : (program : Program) (all : List Procedure) (number : ℕ) (procedure : Procedure) (cells : List CellKind) → all ≡ program.procedures → true ≡ ltb number (length all) →
    procedure ≡ get_or all number procedure → cells ≡ procedure.routine.cells → HasParameters (plain_prog program) number (take procedure.params cells)
has_parameters program all number procedure cells same inside is cells_are =
    let there : slice_get all number ≡ Some procedure = slice_get_read all (length all) number procedure refl (ltb-true number (length all) (sym inside)) is in (
      plain_procedure procedure,
      slice_get-map plain_procedure program.procedures number ∙ ap (option_map plain_procedure) (ap (λ all. slice_get all number) (sym same) ∙ there),
      ap (take procedure.params) (sym cells_are),
    )

-- LISTS

module _ (p : PlainProg) (old now : List Instr) where
  pub all_more : (next : List Instr) (xs : List Expr) (i : ℕ) (x : Expr) → i < length xs → x ≡ get_or xs i x → AllSoFar p old now (plain_exprs (drop i xs)) (plain_exprs xs) →
      Extends now next → EmitsExpr p (plain_expr x) now next → AllSoFar p old next (plain_exprs (drop (i + 1) xs)) (plain_exprs xs)
  all_more next xs i x inside is before kept added =
      all_next p old now next (plain_expr x) (plain_exprs (drop (i + 1) xs)) (plain_exprs xs)
      (subst (λ left. AllSoFar p old now (plain_exprs left) (plain_exprs xs)) (one_left xs i x inside is) before) kept added

  pub all_done : (xs : List Expr) (i : ℕ) → length xs ≤ i → AllSoFar p old now (plain_exprs (drop i xs)) (plain_exprs xs) → EmitsAll p (plain_exprs xs) old now
  all_done xs i past before =
      let none : AllSoFar p old now NoExprs (plain_exprs xs) =
      subst (λ left. AllSoFar p old now (plain_exprs left) (plain_exprs xs)) (drop_of_length-le xs past) before in
      none now (length now) (extends_self now) refl

  pub arguments_more : (next : List Instr) (params : List CellKind) (xs : List Argument) (i : ℕ) (d : CellKind) (x : Argument) → length params ≡ length xs → i < length xs → x ≡ get_or xs i x →
      ArgumentsSoFar p old now (drop i params) (plain_arguments (drop i xs)) params (plain_arguments xs) → Extends now next →
      EmitsArgument p (get_or params i d) (plain_argument x) now next → ArgumentsSoFar p old next (drop (i + 1) params) (plain_arguments (drop (i + 1) xs)) params (plain_arguments xs)
  arguments_more next params xs i d x same inside is before kept added =
      let here : ArgumentsSoFar p old now (get_or params i d ∷ drop (i + 1) params) (MoreArguments (plain_argument x) (plain_arguments (drop (i + 1) xs))) params (plain_arguments xs) =
      subst (λ left. ArgumentsSoFar p old now left (MoreArguments (plain_argument x) (plain_arguments (drop (i + 1) xs))) params (plain_arguments xs))
      (some_left params i d (omega (arith, same, inside)))
      (subst (λ left. ArgumentsSoFar p old now (drop i params) (plain_arguments left) params (plain_arguments xs)) (one_left xs i x inside is) before) in
      arguments_next p old now next (get_or params i d) (drop (i + 1) params) (plain_argument x) (plain_arguments (drop (i + 1) xs)) params (plain_arguments xs) here kept added

  pub arguments_done : (params : List CellKind) (xs : List Argument) (i : ℕ) → length params ≡ length xs → length xs ≤ i →
      ArgumentsSoFar p old now (drop i params) (plain_arguments (drop i xs)) params (plain_arguments xs) → EmitsArguments p params (plain_arguments xs) old now
  arguments_done params xs i same past before =
      let none : ArgumentsSoFar p old now [] NoArguments params (plain_arguments xs) =
      subst (λ left. ArgumentsSoFar p old now left NoArguments params (plain_arguments xs)) (drop_of_length-le params (omega (arith, same, past)))
      (subst (λ left. ArgumentsSoFar p old now (drop i params) (plain_arguments left) params (plain_arguments xs)) (drop_of_length-le xs past) before) in
      none now (length now) (extends_self now) refl
