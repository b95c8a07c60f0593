-- Expressions, arguments and selectors, one after the other.
use Rattle.std.proofs.Common.{◌≡◌, ℕ, zero, suc, ◌+◌, ◌<◌, ◌≤◌, List, [], ◌∷◌, ◌++◌, length, take, drop, get_or, refl, sym, ap, ◌∙◌, arith}
use Rattle.std.proofs.lemmas.List.{drop_all}
use Rattle.pearl_tree.specs.declared.expression.Expr.{Expr as Written}
use Rattle.pearl_tree.specs.declared.expression.Selector.{Selector}
use Rattle.pearl_tree.specs.ShownExpressions.{ShownExprs, MoreExprs, shown_expr, shown_expr_list, shown_selector, shown_selector_list}
use Rattle.pearl_names.specs.declared.scope.View.{View}
use Rattle.pearl_names.specs.Tables.{Parameter}
use Rattle.pearl_program.specs.declared.expression.Expr.{Expr}
use Rattle.pearl_program.specs.declared.expression.Argument.{Argument}
use Rattle.pearl_program.specs.PlainExpressions.{PlainExprs, PlainArguments, MoreArguments, plain_expr, plain_exprs, plain_argument, plain_arguments}
use Rattle.pearl_program.specs.PlainExpressions as plain
use Rattle.pearl_names.proofs.Offered.{one_taken}
use Rattle.pearl_resolve.specs.Expressions.{Numbered, Walk, along, step, handed, joined_exprs, resolve_expr, resolve_exprs, resolve_arguments}
use Rattle.pearl_resolve.specs.Holding.{is_ident_at}
use Rattle.pearl_resolve.proofs.PlainNodes.{exprs_push, joined_none, joined_arguments, arguments_push, joined_no_arguments, one_left}

pub exprs_more : (of : Numbered) (view : View) (exprs : List Written) (made : List Expr) (x : Written) (e : Expr) (i : ℕ) (all : PlainExprs) →
    i < length exprs → x ≡ get_or exprs i x → plain_expr e ≡ resolve_expr of view (shown_expr x) →
    joined_exprs (plain_exprs made) (resolve_exprs of view (shown_expr_list (drop i exprs))) ≡ all →
    joined_exprs (plain_exprs (made ++ e ∷ [])) (resolve_exprs of view (shown_expr_list (drop (i + 1) exprs))) ≡ all
exprs_more of view exprs made x e i all inside is so before =
    let rest = resolve_exprs of view (shown_expr_list (drop (i + 1) exprs)) in
    exprs_push made e rest
    ∙ ap (λ p. joined_exprs (plain_exprs made) (plain.MoreExprs p rest)) so
    ∙ ap (λ l. joined_exprs (plain_exprs made) (resolve_exprs of view (shown_expr_list l))) (sym (one_left exprs i x inside is))
    ∙ before

pub exprs_all : (of : Numbered) (view : View) (exprs : List Written) (made : List Expr) (i : ℕ) (all : PlainExprs) → length exprs ≤ i →
    joined_exprs (plain_exprs made) (resolve_exprs of view (shown_expr_list (drop i exprs))) ≡ all → plain_exprs made ≡ all
exprs_all of view exprs made i all past before =
    sym (joined_none (plain_exprs made))
    ∙ ap (λ l. joined_exprs (plain_exprs made) (resolve_exprs of view (shown_expr_list l))) (sym (drop_all i exprs past))
    ∙ before

argument_next : (of : Numbered) (view : View) (parameters : List Parameter) (i : ℕ) (x : Written) (rest : ShownExprs) →
    resolve_arguments of view (drop i parameters) (MoreExprs (shown_expr x) rest) ≡
    MoreArguments (handed (is_ident_at parameters i) (resolve_expr of view (shown_expr x))) (resolve_arguments of view (drop (suc i) parameters) rest)
argument_next of view [] zero x rest = refl
argument_next of view [] (suc i) x rest = refl
argument_next of view (parameter ∷ parameters) zero x rest = refl
argument_next of view (parameter ∷ parameters) (suc i) x rest = argument_next of view parameters i x rest

pub arguments_more : (of : Numbered) (view : View) (parameters : List Parameter) (exprs : List Written) (made : List Argument) (x : Written) (a : Argument) (i : ℕ) (all : PlainArguments) →
    i < length exprs → x ≡ get_or exprs i x → plain_argument a ≡ handed (is_ident_at parameters i) (resolve_expr of view (shown_expr x)) →
    joined_arguments (plain_arguments made) (resolve_arguments of view (drop i parameters) (shown_expr_list (drop i exprs))) ≡ all →
    joined_arguments (plain_arguments (made ++ a ∷ [])) (resolve_arguments of view (drop (i + 1) parameters) (shown_expr_list (drop (i + 1) exprs))) ≡ all
arguments_more of view parameters exprs made x a i all inside is so before =
    let next : i + 1 ≡ suc i = omega arith in
    let rest = resolve_arguments of view (drop (i + 1) parameters) (shown_expr_list (drop (i + 1) exprs)) in
    arguments_push made a rest
    ∙ (λ j. joined_arguments (plain_arguments made) (MoreArguments (so j) (resolve_arguments of view (drop (next j) parameters) (shown_expr_list (drop (i + 1) exprs)))))
    ∙ ap (joined_arguments (plain_arguments made)) (sym (argument_next of view parameters i x (shown_expr_list (drop (i + 1) exprs))))
    ∙ ap (λ l. joined_arguments (plain_arguments made) (resolve_arguments of view (drop i parameters) (shown_expr_list l))) (sym (one_left exprs i x inside is))
    ∙ before

no_arguments_left : (of : Numbered) (view : View) (parameters : List Parameter) → resolve_arguments of view parameters (shown_expr_list []) ≡ plain.NoArguments
no_arguments_left of view [] = refl
no_arguments_left of view (parameter ∷ parameters) = refl

pub arguments_all : (of : Numbered) (view : View) (parameters : List Parameter) (exprs : List Written) (made : List Argument) (i : ℕ) (all : PlainArguments) → length exprs ≤ i →
    joined_arguments (plain_arguments made) (resolve_arguments of view (drop i parameters) (shown_expr_list (drop i exprs))) ≡ all → plain_arguments made ≡ all
arguments_all of view parameters exprs made i all past before =
    sym (joined_no_arguments (plain_arguments made))
    ∙ ap (joined_arguments (plain_arguments made)) (sym (no_arguments_left of view (drop i parameters)))
    ∙ ap (λ l. joined_arguments (plain_arguments made) (resolve_arguments of view (drop i parameters) (shown_expr_list l))) (sym (drop_all i exprs past))
    ∙ before

along_push : (of : Numbered) (view : View) (from : Walk) (xs : List Selector) (x : Selector) →
    along of view from (shown_selector_list (xs ++ x ∷ [])) ≡ step of view (along of view from (shown_selector_list xs)) (shown_selector x)
along_push of view from [] x = refl
along_push of view from (y ∷ xs) x = along_push of view (step of view from (shown_selector y)) xs x

-- one selector more
pub along_more : (of : Numbered) (view : View) (from : Walk) (xs : List Selector) (i : ℕ) (x : Selector) → i < length xs → x ≡ get_or xs i x →
    along of view from (shown_selector_list (take (i + 1) xs)) ≡ step of view (along of view from (shown_selector_list (take i xs))) (shown_selector x)
along_more of view from xs i x inside is =
    ap (λ l. along of view from (shown_selector_list l)) (one_taken xs i x inside is) ∙ along_push of view from (take i xs) x
