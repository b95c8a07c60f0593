-- Lists of what statements ask for.
use Rattle.std.proofs.Common.{◌≡◌, ℕ, ◌+◌, ◌<◌, List, [], ◌∷◌, ◌++◌, refl, ap, ◌∙◌, map, length, take, get_or}
use Rattle.std.proofs.lemmas.List.{map-append}
use Rattle.pearl_tree.specs.declared.expression.Expr.{Expr}
use Rattle.pearl_tree.specs.ShownExpressions.{MoreExprs, shown_expr, shown_expr_list}
use Rattle.pearl_check.specs.declared.asked.Asked.{Asked as CodeAsked}
use Rattle.pearl_names.proofs.Offered.{one_taken}
use Rattle.pearl_check.specs.Asked.{as_exprs, shown_asked, asked_in}

pub asked_in-nil : asked_in [] ≡ []
unfolding asked_in
asked_in-nil = refl

pub asked_in-append : (a b : List CodeAsked) → asked_in (a ++ b) ≡ asked_in a ++ asked_in b
unfolding asked_in
asked_in-append a b = map-append _ a b

pub asked_in-cons : (a : CodeAsked) (b : List CodeAsked) → asked_in (a ∷ b) ≡ shown_asked a ∷ asked_in b
unfolding asked_in
asked_in-cons a b = refl

-- one more is taken of a list
pub asked_taken : (xs : List CodeAsked) (i : ℕ) (x : CodeAsked) → i < length xs → x ≡ get_or xs i x →
    asked_in (take (i + 1) xs) ≡ asked_in (take i xs) ++ shown_asked x ∷ []
unfolding asked_in
asked_taken xs i x inside is = ap asked_in (one_taken xs i x inside is) ∙ asked_in-append (take i xs) (x ∷ [])

pub map-map : {X Y Z : Type 0} (f : Y → Z) (show : X → Y) (xs : List X) → map f (map show xs) ≡ map (λ x. f (show x)) xs
map-map f show [] = refl
map-map f show (x ∷ xs) = ap (λ t. f (show x) ∷ t) (map-map f show xs)

-- arguments of a call, in a list and as those within an expression
pub exprs_listed : (exprs : List Expr) → as_exprs (map shown_expr exprs) ≡ shown_expr_list exprs
exprs_listed [] = refl
exprs_listed (expr ∷ rest) = ap (λ t. MoreExprs (shown_expr expr) t) (exprs_listed rest)

pub ruleset asked_steps = (asked_in-nil, asked_in-append, asked_in-cons, exprs_listed, map-map)
