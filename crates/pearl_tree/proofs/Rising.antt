-- Lists that rise strictly have no two elements with one key.
use Rattle.std.proofs.Common.{◌≡◌, zero, suc, Bool, true, false, ◌&&◌, List, [], ◌∷◌, ◌⊎◌, inl, inr, refl, sym, ap, ◌∙◌, arith}
use Rattle.std.specs.List.{All, Contains}
use Rattle.std.proofs.lemmas.Bool.{false≢true}
use Rattle.std.proofs.lemmas.List.Elements.{All-nil, All-cons, All-contains, All-weaker}
use Rattle.pearl_tree.specs.Rising.{rises, rises_from}

-- an element of a list is its first, or one of the rest
pub Contains-cons_cases : {X : Type 0} (x : X) (xs : List X) (y : X) → Contains (x ∷ xs) y → (x ≡ y) ⊎ Contains xs y
Contains-cons_cases x xs y (zero, in_list, e) = inl e
Contains-cons_cases x xs y (suc k, in_list, e) = inr (k, omega arith, e)

pub and_front : (a b : Bool) → (a && b) ≡ true → a ≡ true
and_front true b h = refl
and_front false b h = h

pub and_back : (a b : Bool) → (a && b) ≡ true → b ≡ true
and_back true b h = h
and_back false b h = absurd (false≢true h)

abbrev pub IsTransitive : {X : Type 0} → (X → X → Bool) → Type 0
IsTransitive {X} before = (x y z : X) → before x y ≡ true → before y z ≡ true → before x z ≡ true

-- the first of a list that rises is before all others
all_after : {X : Type 0} (before : X → X → Bool) → IsTransitive before → (x : X) (xs : List X) → rises_from before x xs ≡ true → All (λ y. before x y ≡ true) xs
all_after before t x [] h = All-nil (λ y. before x y ≡ true)
all_after before t x (y ∷ ys) h =
    let first = and_front (before x y) (rises_from before y ys) h in
    let rest = and_back (before x y) (rises_from before y ys) h in
    All-cons (λ z. before x z ≡ true) y ys first (All-weaker (λ z. before y z ≡ true) (λ z. before x z ≡ true) (λ z e. t x y z first e) ys (all_after before t y ys rest))

rises_rest : {X : Type 0} (before : X → X → Bool) (x : X) (xs : List X) → rises_from before x xs ≡ true → rises before xs ≡ true
rises_rest before x [] h = refl
rises_rest before x (y ∷ ys) h = and_back (before x y) (rises_from before y ys) h

-- two elements of which neither is before the other are one
pub same_element : {X : Type 0} (before : X → X → Bool) → IsTransitive before → (xs : List X) → rises before xs ≡ true → (a b : X) → before a b ≡ false → before b a ≡ false → Contains xs a → Contains xs b → a ≡ b
same_element before t [] h a b ab ba in_a in_b = absurd (omega (arith, in_a.1))
same_element before t (x ∷ xs) h a b ab ba in_a in_b =
    let after = all_after before t x xs h in
    elim (Contains-cons_cases x xs a in_a) as (λ _. a ≡ b) [
      | inl x_is_a ↦ elim (Contains-cons_cases x xs b in_b) as (λ _. a ≡ b) [
        | inl x_is_b ↦ sym x_is_a ∙ x_is_b
        | inr b_after ↦ absurd (false≢true (sym ab ∙ ap (λ y. before y b) (sym x_is_a) ∙ All-contains (λ y. before x y ≡ true) xs b after b_after))
      ]
      | inr a_after ↦ elim (Contains-cons_cases x xs b in_b) as (λ _. a ≡ b) [
        | inl x_is_b ↦ absurd (false≢true (sym ba ∙ ap (λ y. before y a) (sym x_is_b) ∙ All-contains (λ y. before x y ≡ true) xs a after a_after))
        | inr b_after ↦ same_element before t xs (rises_rest before x xs h) a b ab ba a_after b_after
      ]
    ]
