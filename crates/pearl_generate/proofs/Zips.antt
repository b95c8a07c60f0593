-- Two lists whose elements belong together.
use Rattle.std.proofs.Common.{◌≡◌, ℕ, suc, zero, ◌+◌, ◌<◌, List, [], ◌∷◌, ◌++◌, length, get_or, take, map, Some, slice_get, refl, ap, sym, ◌∙◌, subst}
use Rattle.std.proofs.lemmas.List.{take_more}
use Rattle.std.proofs.lemmas.Option.{none-some}
use Rattle.std.specs.List.{AllZip}

zip_push : {X Y : Type 0} (R : X → Y → Type 0) (xs : List X) (ys : List Y) (x : X) (y : Y) → AllZip R xs ys → R x y → AllZip R (xs ++ x ∷ []) (ys ++ y ∷ [])
zip_push R [] [] x y h r = (r, tt)
zip_push R [] (b ∷ ys) x y h r = absurd h
zip_push R (a ∷ xs) [] x y h r = absurd h
zip_push R (a ∷ xs) (b ∷ ys) x y h r = (h.0, zip_push R xs ys x y h.1 r)

-- one step of a loop over the first list
pub zip_more : {X Y : Type 0} (R : X → Y → Type 0) (xs : List X) (ys new : List Y) (i : ℕ) (x : X) (y : Y) → i < length xs → x ≡ get_or xs i x →
    new ≡ ys ++ y ∷ [] → AllZip R (take i xs) ys → R x y → AllZip R (take (i + 1) xs) new
zip_more R xs ys new i x y within is added h r =
    let longer : take i xs ++ x ∷ [] ≡ take (i + 1) xs = ap (λ z. take i xs ++ z ∷ []) is ∙ sym (take_more xs i x within) in
    subst (λ l. AllZip R l new) longer (subst (λ l. AllZip R (take i xs ++ x ∷ []) l) (sym added) (zip_push R (take i xs) ys x y h r))

-- what belongs to an element
pub zip_at : {X Y : Type 0} (R : X → Y → Type 0) (xs : List X) (ys : List Y) (k : ℕ) (x : X) → AllZip R xs ys → slice_get xs k ≡ Some x →
    (y : Y) × (slice_get ys k ≡ Some y) × R x y
zip_at R [] ys k x h is = absurd (none-some x is)
zip_at R (a ∷ xs) [] k x h is = absurd h
zip_at R (a ∷ xs) (b ∷ ys) zero x h is = let same : a ≡ x = cc in (b, refl, subst (λ x. R x b) same h.0)
zip_at R (a ∷ xs) (b ∷ ys) (suc k) x h is = zip_at R xs ys k x h.1 is

-- what is read off both alike
pub zip_maps : {X Y Z : Type 0} (R : X → Y → Type 0) (f : X → Z) (g : Y → Z) (xs : List X) (ys : List Y) → ((x : X) (y : Y) → R x y → g y ≡ f x) →
    AllZip R xs ys → map g ys ≡ map f xs
zip_maps R f g [] [] each h = refl
zip_maps R f g [] (b ∷ ys) each h = absurd h
zip_maps R f g (a ∷ xs) [] each h = absurd h
zip_maps R f g (a ∷ xs) (b ∷ ys) each h = λ i. each a b h.0 i ∷ zip_maps R f g xs ys each h.1 i
