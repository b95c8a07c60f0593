-- A list that rises is told by what it has.
use Rattle.std.proofs.Common.{◌≡◌, ◌⊎◌, inl, inr, ℕ, List, [], ◌∷◌, refl, sym, ap, ◌∙◌, arith}
use Rattle.std.proofs.lemmas.List.Elements.{All-contains}
use Rattle.std.specs.List.{All, Contains}
use Rattle.pearl_system.specs.Rising.{IsLess, IsRising, Lists}
use Rattle.pearl_system.proofs.Lists.{pairs_head, pairs_tail, contains_here, contains_later, contains_cases, less_apart, less_trans}

pub none_in : {X : Type 0} (x : X) → Contains [] x → ⊥
none_in x (k, below, is) = absurd (omega arith)

-- each of two first elements stands in the other's list
heads : {X : Type 0} (key : X → ℕ × ℕ) (x y : X) (a b : List X) → All (λ z. IsLess (key x) (key z)) a → All (λ z. IsLess (key y) (key z)) b
    → (x ≡ y) ⊎ Contains b x → (y ≡ x) ⊎ Contains a y → x ≡ y
heads key x y a b above_x above_y (inl e) there = e
heads key x y a b above_x above_y (inr i) (inl e) = sym e
heads key x y a b above_x above_y (inr i) (inr j) =
    absurd (less_apart (key x) (key x)
    (less_trans (key x) (key y) (key x) (All-contains (λ z. IsLess (key x) (key z)) a y above_x j) (All-contains (λ z. IsLess (key y) (key z)) b x above_y i)) refl)

-- a later element isn't the first one
past : {X : Type 0} (key : X → ℕ × ℕ) (x y z : X) (a b : List X) → x ≡ y → All (λ w. IsLess (key x) (key w)) a → Contains a z
    → (z ≡ y) ⊎ Contains b z → Contains b z
past key x y z a b same above i (inl e) =
    absurd (less_apart (key x) (key z) (All-contains (λ w. IsLess (key x) (key w)) a z above i) (ap key (same ∙ sym e)))
past key x y z a b same above i (inr j) = j

rising_once : {X : Type 0} (key : X → ℕ × ℕ) (a b : List X) → IsRising key a → IsRising key b → ((x : X) → Contains a x → Contains b x)
    → ((x : X) → Contains b x → Contains a x) → a ≡ b
rising_once key [] [] rises_a rises_b to from = refl
rising_once key [] (y ∷ b) rises_a rises_b to from = absurd (none_in y (from y (contains_here y b)))
rising_once key (x ∷ a) [] rises_a rises_b to from = absurd (none_in x (to x (contains_here x a)))
rising_once {X} key (x ∷ a) (y ∷ b) rises_a rises_b to from =
    let Before : X → X → Type 0 = λ u v. IsLess (key u) (key v) in
    let above_x : All (λ z. IsLess (key x) (key z)) a = pairs_head Before x a rises_a in
    let above_y : All (λ z. IsLess (key y) (key z)) b = pairs_head Before y b rises_b in
    let head : x ≡ y = heads key x y a b above_x above_y (contains_cases y b x (to x (contains_here x a))) (contains_cases x a y (from y (contains_here y b))) in
    let rest : a ≡ b = rising_once key a b (pairs_tail Before x a rises_a) (pairs_tail Before y b rises_b)
    (λ z i. past key x y z a b head above_x i (contains_cases y b z (to z (contains_later x a z i))))
    (λ z i. past key y x z b a (sym head) above_y i (contains_cases x a z (from z (contains_later y b z i)))) in
    ap (λ h. h ∷ a) head ∙ ap (λ t. y ∷ t) rest

pub lists_once : {X : Type 0} (key : X → ℕ × ℕ) (P : X → Type 0) (a b : List X) → Lists key P a → Lists key P b → a ≡ b
lists_once key P a b first second =
    rising_once key a b first.rising second.rising
    (λ x i. (second.exact x).1 ((first.exact x).0 i)) (λ x i. (first.exact x).1 ((second.exact x).0 i))
