-- How many elements there are, one dimension after another.
use Rattle.std.proofs.Common.{◌≡◌, ℕ, suc, ◌+◌, ◌*◌, ◌<◌, ◌-ℤ◌, List, ◌∷◌, length, drop, get_or, sym, ap, ◌∙◌, arith, drop-cons}
use Rattle.std.specs.Prelude.{unsigned_abs}
use native.Mathlib.Nat.{mul_assoc}
use Rattle.pearl_program.specs.declared.expression.Bound.{Bound}
use Rattle.pearl_program.specs.Typing.{elements}

pub count_more : (bounds : List Bound) (i : ℕ) (d : Bound) (count size more : ℕ) → i < length bounds →
    size ≡ unsigned_abs ((get_or bounds i d).upper -ℤ (get_or bounds i d).lower) + 1 → more ≡ count * size → count * elements (drop i bounds) ≡ elements bounds →
    more * elements (drop (i + 1) bounds) ≡ elements bounds
count_more bounds i d count size more inside is product before =
    let b = get_or bounds i d in
    let rest = elements (drop (i + 1) bounds) in
    let next : suc i ≡ i + 1 = omega arith in
    let parted : elements (drop i bounds) ≡ (unsigned_abs (b.upper -ℤ b.lower) + 1) * rest =
    ap elements (drop-cons bounds i d inside) ∙ ap (λ i. (unsigned_abs (b.upper -ℤ b.lower) + 1) * elements (drop i bounds)) next in
    ap (λ n. n * rest) product ∙ (mul_assoc count size rest ∙ (ap (λ n. count * (n * rest)) is ∙ (ap (λ n. count * n) (sym parted) ∙ before)))

-- the elements that are left, where one is there and where none is
pub one_left : {X : Type 0} (xs : List X) (i : ℕ) (x : X) → i < length xs → x ≡ get_or xs i x → drop i xs ≡ x ∷ drop (i + 1) xs
one_left xs i x inside is =
    let next : suc i ≡ i + 1 = omega arith in
    drop-cons xs i x inside ∙ (ap (λ y. y ∷ drop (suc i) xs) (sym is) ∙ ap (λ i. x ∷ drop i xs) next)

pub some_left : {X : Type 0} (xs : List X) (i : ℕ) (d : X) → i < length xs → drop i xs ≡ get_or xs i d ∷ drop (i + 1) xs
some_left xs i d inside =
    let next : suc i ≡ i + 1 = omega arith in
    drop-cons xs i d inside ∙ ap (λ n. get_or xs i d ∷ drop n xs) next
