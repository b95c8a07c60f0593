-- The parts of statements that have no statements within them.
use Rattle.std.proofs.Common.{◌≡◌, ℕ, ◌+◌, ◌<◌, List, [], ◌∷◌, ◌++◌, length, map, take, get_or, refl, sym, ap, ◌∙◌, append_assoc}
use Rattle.std.proofs.lemmas.List.{map-append}
use Rattle.pearl_tree.specs.declared.expression.Expr.{Expr}
use Rattle.pearl_tree.specs.ShownExpressions.{MoreExprs, shown_expr, shown_expr_list}
use Rattle.pearl_names.proofs.Offered.{one_taken}
use Rattle.pearl_resolve.specs.Statements.{listed}

pub listed_shown : (exprs : List Expr) → listed (map shown_expr exprs) ≡ shown_expr_list exprs
listed_shown [] = refl
listed_shown (expr ∷ rest) = ap (λ t. MoreExprs (shown_expr expr) t) (listed_shown rest)

pub ruleset part_steps = (listed_shown)

-- one more of a list whose parts become others
pub one_mapped : {X Y : Type 0} (f : X → Y) (xs : List X) (made more : List Y) (i : ℕ) (x : X) → i < length xs → x ≡ get_or xs i x →
    made ≡ map f (take i xs) → more ≡ made ++ f x ∷ [] → more ≡ map f (take (i + 1) xs)
one_mapped f xs made more i x inside is before so =
    so ∙ ap (λ m. m ++ f x ∷ []) before ∙ sym (ap (map f) (one_taken xs i x inside is) ∙ map-append f (take i xs) (x ∷ []))

mapped_more : {X S Z : Type 0} (f : S → Z) (show : X → S) (xs : List X) (i : ℕ) (x : X) → i < length xs → x ≡ get_or xs i x →
    map f (map show (take (i + 1) xs)) ≡ map f (map show (take i xs)) ++ f (show x) ∷ []
mapped_more f show xs i x inside is =
    ap (λ l. map f (map show l)) (one_taken xs i x inside is)
    ∙ ap (map f) (map-append show (take i xs) (x ∷ []))
    ∙ map-append f (map show (take i xs)) (show x ∷ [])

-- the same of parts that are shown and made
pub one_made : {X S Y Z : Type 0} (f : S → Z) (show : X → S) (g : Y → Z) (xs : List X) (made : List Y) (i : ℕ) (x : X) (y : Y) →
    i < length xs → x ≡ get_or xs i x → g y ≡ f (show x) → map g made ≡ map f (map show (take i xs)) →
    map g (made ++ y ∷ []) ≡ map f (map show (take (i + 1) xs))
one_made f show g xs made i x y inside is so before =
    map-append g made (y ∷ []) ∙ (λ j. before j ++ so j ∷ []) ∙ sym (mapped_more f show xs i x inside is)

-- behind others
pub one_behind : {X S Z : Type 0} (f : S → Z) (show : X → S) (xs : List X) (old made more : List Z) (i : ℕ) (x : X) (z : Z) →
    i < length xs → x ≡ get_or xs i x → z ≡ f (show x) → made ≡ old ++ map f (map show (take i xs)) → more ≡ made ++ z ∷ [] →
    more ≡ old ++ map f (map show (take (i + 1) xs))
one_behind f show xs old made more i x z inside is so before pushed =
    pushed
    ∙ (λ j. before j ++ so j ∷ [])
    ∙ append_assoc old (map f (map show (take i xs))) (f (show x) ∷ [])
    ∙ ap (λ l. old ++ l) (sym (mapped_more f show xs i x inside is))
