-- The top operands in the order in which they were pushed.
use Rattle.std.proofs.Common.{◌≡◌, ℕ, zero, suc, List, [], ◌∷◌, ◌++◌, Some, reverse, take, slice_get, refl, sym, ap, ◌∙◌}
use Rattle.std.proofs.lemmas.List.{reverse-append}
use Rattle.std.proofs.lemmas.Option.{same_Some}
use Rattle.pearl_value.specs.declared.cell.Cell.{Cell}

pub take_last : {A : Type 0} (xs : List A) (m : ℕ) (x : A) → slice_get xs m ≡ Some x → take (suc m) xs ≡ take m xs ++ (x ∷ [])
take_last [] m x e = cc
take_last (y ∷ xs) zero x e = ap (λ y. y ∷ []) (same_Some y x e)
take_last (y ∷ xs) (suc m) x e = ap (λ ys. y ∷ ys) (take_last xs m x e)

pub reverse_last : (xs : List Cell) (m : ℕ) (x : Cell) → slice_get xs m ≡ Some x → reverse (take (suc m) xs) ≡ x ∷ reverse (take m xs)
reverse_last xs m x e = ap reverse (take_last xs m x e) ∙ reverse-append (take m xs) (x ∷ [])

append_one : (xs ys : List Cell) (x : Cell) → (xs ++ (x ∷ [])) ++ ys ≡ xs ++ (x ∷ ys)
append_one [] ys x = refl
append_one (y ∷ xs) ys x = ap (λ zs. y ∷ zs) (append_one xs ys x)

-- one operand more was read, n being left
pub one_more : (made all xs : List Cell) (n left : ℕ) (x : Cell) → n ≡ suc left → slice_get xs left ≡ Some x → made ++ reverse (take n xs) ≡ all →
    (made ++ (x ∷ [])) ++ reverse (take left xs) ≡ all
one_more made all xs n left x e h is =
    append_one made (reverse (take left xs)) x ∙ (ap (λ t. made ++ t) (sym (reverse_last xs left x h) ∙ ap (λ k. reverse (take k xs)) (sym e)) ∙ is)
