-- What nodes of expressions say whose parts lie in boxes and lists.
use Rattle.std.proofs.Common.{◌≡◌, ℕ, suc, ◌+◌, ◌<◌, List, [], ◌∷◌, ◌++◌, length, drop, get_or, Box, Global, refl, sym, ap, ◌∙◌, arith, drop-cons}
use mathlib.Core.Former.{Count}
use Rattle.pearl_program.specs.declared.expression.Variable.{Variable, Row_of-Expr, end_of-Expr, more_of-Expr, items-the_row-Expr, items_hidden-the_row-Expr-0}
use Rattle.pearl_program.specs.declared.expression.Call.{Call, Row_of-Argument, end_of-Argument, more_of-Argument, items-the_row-Argument, items_hidden-the_row-Argument-1}
use Rattle.pearl_program.specs.declared.expression.Argument.{Argument}
use Rattle.pearl_program.specs.declared.expression.Expr.{Expr}
use Rattle.pearl_program.specs.declared.expression.Expr as expr
use Rattle.pearl_program.specs.PlainExpressions.{OfRead, OfCall, OfVariable, PlainExprs, NoExprs, MoreExprs, PlainArguments, NoArguments, MoreArguments, plain_expr, plain_row, plain_exprs, plain_argument, plain_argument_row, plain_arguments, plain_variable}
use Rattle.pearl_resolve.specs.Expressions.{joined_exprs, count}

exprs_plain : (n : _) (row : Row_of-Expr n) → plain_row row ≡ plain_exprs (items-the_row-Expr n row)
exprs_plain _ end_of-Expr = refl
exprs_plain _ (more_of-Expr e rest) = ap (λ t. MoreExprs (plain_expr e) t) (exprs_plain _ rest)

arguments_plain : (n : _) (row : Row_of-Argument n) → plain_argument_row row ≡ plain_arguments (items-the_row-Argument n row)
arguments_plain _ end_of-Argument = refl
arguments_plain _ (more_of-Argument a rest) = ap (λ t. MoreArguments (plain_argument a) t) (arguments_plain _ rest)

abbrev subscripts_of : Expr → (n : Count) × Row_of-Expr n
subscripts_of (expr.Read' _ _ _ _ row) = (_, row)
subscripts_of _ = (_, end_of-Expr)

pub read_plain : (variable : Box Variable Global) → plain_expr (expr.Read variable) ≡ OfRead (plain_variable variable.value)
read_plain variable =
    let row = subscripts_of (expr.Read variable) in
    ap (λ t. OfRead (OfVariable variable.value.target variable.value.bounds.items t))
    (exprs_plain row.0 row.1 ∙ ap plain_exprs (items_hidden-the_row-Expr-0 variable.value.subscripts))

abbrev arguments_of : Expr → (n : Count) × Row_of-Argument n
arguments_of (expr.Call' _ _ _ row) = (_, row)
arguments_of _ = (_, end_of-Argument)

pub call_plain : (call : Box Call Global) → plain_expr (expr.Call call) ≡ OfCall call.value.procedure (plain_arguments call.value.arguments.items)
call_plain call =
    let row = arguments_of (expr.Call call) in
    ap (λ t. OfCall call.value.procedure t)
    (arguments_plain row.0 row.1 ∙ ap plain_arguments (items_hidden-the_row-Argument-1 call.value.arguments))

-- expressions one after the other
pub exprs_push : (made : List Expr) (e : Expr) (rest : PlainExprs) →
    joined_exprs (plain_exprs (made ++ e ∷ [])) rest ≡ joined_exprs (plain_exprs made) (MoreExprs (plain_expr e) rest)
exprs_push [] e rest = refl
exprs_push (x ∷ made) e rest = ap (λ t. MoreExprs (plain_expr x) t) (exprs_push made e rest)

pub joined_none : (exprs : PlainExprs) → joined_exprs exprs NoExprs ≡ exprs
joined_none NoExprs = refl
joined_none (MoreExprs e rest) = ap (λ t. MoreExprs e t) (joined_none rest)

pub count_plain : (exprs : List Expr) → count (plain_exprs exprs) ≡ length exprs
count_plain [] = refl
count_plain (e ∷ rest) = let one : 1 + count (plain_exprs rest) ≡ suc (count (plain_exprs rest)) = omega arith in one ∙ ap suc (count_plain rest)

-- arguments one after the other
abbrev pub joined_arguments : PlainArguments → PlainArguments → PlainArguments
joined_arguments NoArguments more = more
joined_arguments (MoreArguments a rest) more = MoreArguments a (joined_arguments rest more)

pub arguments_push : (made : List Argument) (a : Argument) (rest : PlainArguments) →
    joined_arguments (plain_arguments (made ++ a ∷ [])) rest ≡ joined_arguments (plain_arguments made) (MoreArguments (plain_argument a) rest)
arguments_push [] a rest = refl
arguments_push (x ∷ made) a rest = ap (λ t. MoreArguments (plain_argument x) t) (arguments_push made a rest)

pub joined_no_arguments : (arguments : PlainArguments) → joined_arguments arguments NoArguments ≡ arguments
joined_no_arguments NoArguments = refl
joined_no_arguments (MoreArguments a rest) = ap (λ t. MoreArguments a t) (joined_no_arguments rest)

-- what is left of a list from an element on
pub one_left : {X : Type 0} (xs : List X) (i : ℕ) (x : X) → i < length xs → x ≡ get_or xs i x → drop i xs ≡ x ∷ drop (i + 1) xs
one_left xs i x inside is =
    let next : suc i ≡ i + 1 = omega arith in
    drop-cons xs i x inside ∙ (λ j. sym is j ∷ drop (next j) xs)
