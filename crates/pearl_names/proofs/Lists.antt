-- Lists of what the elements of a list show.
use Rattle.std.proofs.Common.{◌≡◌, ℕ, zero, suc, ◌+◌, ◌<◌, ◌≤◌, append_assoc, arith, List, [], ◌∷◌, ◌++◌, map, length, take, drop, get_or, refl, sym, ap, ◌∙◌}
use Rattle.std.proofs.lemmas.List.{take_more, take-append-drop}
use Rattle.std.specs.List.{flat_map}

pub flat_map-map : {X S Y : Type 0} (f : S → List Y) (show : X → S) (xs : List X) → flat_map f (map show xs) ≡ flat_map (λ x. f (show x)) xs
flat_map-map f show [] = refl
flat_map-map f show (x ∷ xs) = ap (λ t. f (show x) ++ t) (flat_map-map f show xs)

-- one element more is taken of a list
pub one_taken : {X : Type 0} (xs : List X) (i : ℕ) (x : X) → i < length xs → x ≡ get_or xs i x → take (i + 1) xs ≡ take i xs ++ x ∷ []
one_taken xs i x inside is = take_more xs i x inside ∙ ap (λ s. take i xs ++ s ∷ []) (sym is)

-- the elements before one, it, and those behind it
pub cut_at : {X : Type 0} (xs : List X) (i : ℕ) (x : X) → i < length xs → x ≡ get_or xs i x → take i xs ++ x ∷ drop (i + 1) xs ≡ xs
cut_at xs i x inside is =
    sym (append_assoc (take i xs) (x ∷ []) (drop (i + 1) xs)) ∙ ap (λ l. l ++ drop (i + 1) xs) (sym (one_taken xs i x inside is)) ∙ take-append-drop (i + 1) xs

-- no element is left
pub all_taken : {X : Type 0} (xs : List X) (i : ℕ) → length xs ≤ i → take i xs ≡ xs
all_taken xs i h = take-le xs i h
  where
    take-le : {Y : Type 0} (ys : List Y) (j : ℕ) → length ys ≤ j → take j ys ≡ ys
    take-le [] zero h = refl
    take-le [] (suc j) h = refl
    take-le (y ∷ ys) zero h = absurd (omega (arith, h))
    take-le (y ∷ ys) (suc j) h = ap (λ t. y ∷ t) (take-le ys j (omega (arith, h)))

pub ruleset list_steps = (flat_map-map)
