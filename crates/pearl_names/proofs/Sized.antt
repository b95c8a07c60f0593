-- How many dimensions and elements bounds have, one after the other.
use Rattle.std.proofs.Common.{zero, suc, false, ◌≡◌, ℕ, ◌+◌, ◌*◌, ◌<◌, ℤ, pos, List, [], ◌∷◌, ◌++◌, map, length, length-append, take, drop, get_or, Option, Some, None, option_map, refl, sym, ap, subst, ◌∙◌, append_assoc, append-nil, arith}
use Rattle.std.specs.Option.{option_and_then}
use Rattle.std.proofs.lemmas.Option.{same_Some, none-some}
use Rattle.std.proofs.lemmas.List.{map-append}
use Rattle.pearl_tree.specs.declared.typing.Bound.{Bound}
use Rattle.pearl_names.specs.declared.sense.Bounds.{Bounds}
use Rattle.pearl_names.specs.Forms.{pair_of}
use Rattle.pearl_names.specs.Shapes.{sound_bound, sound_bounds}
use Rattle.pearl_names.specs.Layout.{elements}
use Rattle.pearl_names.specs.Counts.{cut}
use Rattle.pearl_names.specs.declared.types.Sizes.{Sizes}
use Rattle.pearl_names.specs.Forming.{sizes_of}
use Rattle.pearl_names.proofs.Counting.{cut_mul, elements-append}
use Rattle.pearl_names.proofs.Lists.{one_taken, cut_at}

-- what a loop over bounds has found: all so far are sound
pub record SizedSo (sizes : Sizes) (bounds : List Bound) : Type 0 where
  pub pairs : List (ℤ × ℤ)
  pub sound : (rest : List Bound) → sound_bounds (bounds ++ rest) ≡ option_map (λ more. pairs ++ more) (sound_bounds rest)
  pub sized : sizes ≡ sizes_of pairs

pub sized_none : SizedSo (record { dimensions = 0; elements = 1 }) []
sized_none = record { pairs = []; sound = λ rest. same (sound_bounds rest); sized = refl }
  where
    same : (o : Option (List (ℤ × ℤ))) → o ≡ option_map (λ more. more) o
    same None = refl
    same (Some x) = refl

one_element : (o : Option (ℤ × ℤ)) → Option ℕ
one_element o = option_map (λ pair. cut (elements (pair ∷ []))) o

-- one dimension more
pub sizes_more : (pairs : List (ℤ × ℤ)) (pair : ℤ × ℤ) (sizes : Sizes) (count : ℕ) → sizes ≡ sizes_of pairs → count ≡ cut (elements (pair ∷ [])) →
    record { dimensions = cut (sizes.dimensions + 1); elements = cut (sizes.elements * count) } ≡ sizes_of (pairs ++ pair ∷ [])
sizes_more pairs pair sizes count sized counted =
    let long : length (pairs ++ pair ∷ []) ≡ length pairs + 1 = length-append pairs (pair ∷ []) in
    let dims : cut (cut (length pairs) + 1) ≡ cut (length (pairs ++ pair ∷ [])) = omega (arith, long) in
    λ j. record {
      dimensions = (ap (λ s. cut (s.dimensions + 1)) sized ∙ dims) j;
      elements = ((λ k. cut (ap (λ s. s.elements) sized k * counted k))
          ∙ sym (cut_mul (elements pairs) (elements (pair ∷ []))) ∙ ap cut (sym (elements-append pairs (pair ∷ [])))) j;
    }

-- what a loop over bounds in memory has found
pub pairs_sized : (sizes : Sizes) (xs : List Bounds) (i : ℕ) (x : Bounds) (count : ℕ) → i < length xs → x ≡ get_or xs i x → sizes ≡ sizes_of (map pair_of (take i xs)) →
    count ≡ cut (elements (pair_of x ∷ [])) →
    record { dimensions = cut (sizes.dimensions + 1); elements = cut (sizes.elements * count) } ≡ sizes_of (map pair_of (take (i + 1) xs))
pairs_sized sizes xs i x count inside is so counted =
    sizes_more (map pair_of (take i xs)) (pair_of x) sizes count so counted
    ∙ ap sizes_of (sym (ap (map pair_of) (one_taken xs i x inside is) ∙ map-append pair_of (take i xs) (x ∷ [])))

pub sized_more : (sizes : Sizes) (xs : List Bound) (i : ℕ) (x : Bound) (count : ℕ) → i < length xs → x ≡ get_or xs i x → SizedSo sizes (take i xs) →
    Some count ≡ option_map (λ pair. cut (elements (pair ∷ []))) (sound_bound x) →
    SizedSo (record { dimensions = cut (sizes.dimensions + 1); elements = cut (sizes.elements * count) }) (take (i + 1) xs)
sized_more sizes xs i x count inside is so h =
    subst (SizedSo (record { dimensions = cut (sizes.dimensions + 1); elements = cut (sizes.elements * count) })) (sym (one_taken xs i x inside is))
    (by (sound_bound x) refl h)
  where
    joined : (pair : ℤ × ℤ) (o : Option (List (ℤ × ℤ))) → option_map (λ more. so.pairs ++ more) (option_map (λ pairs. pair ∷ pairs) o) ≡ option_map (λ more. (so.pairs ++ pair ∷ []) ++ more) o
    joined pair None = refl
    joined pair (Some more) = ap Some (sym (append_assoc so.pairs (pair ∷ []) more))

    by : (o : Option (ℤ × ℤ)) → sound_bound x ≡ o → Some count ≡ option_map (λ pair. cut (elements (pair ∷ []))) o →
        SizedSo (record { dimensions = cut (sizes.dimensions + 1); elements = cut (sizes.elements * count) }) (take i xs ++ x ∷ [])
    by None e h = absurd (none-some count (sym h))
    by (Some pair) e h =
        record {
          pairs = so.pairs ++ pair ∷ [];
          sound = λ rest.
              ap sound_bounds (append_assoc (take i xs) (x ∷ []) rest) ∙ so.sound (x ∷ rest)
              ∙ ap (λ o. option_map (λ more. so.pairs ++ more) (option_and_then (λ pair. option_map (λ pairs. pair ∷ pairs) (sound_bounds rest)) o)) e
              ∙ joined pair (sound_bounds rest);
          sized = sizes_more so.pairs pair sizes count so.sized (same_Some count (cut (elements (pair ∷ []))) h);
        }

pub sized_not : (sizes : Sizes) (xs : List Bound) (i : ℕ) (x : Bound) → i < length xs → x ≡ get_or xs i x → SizedSo sizes (take i xs) →
    None ≡ option_map (λ pair. cut (elements (pair ∷ []))) (sound_bound x) → None ≡ option_map sizes_of (sound_bounds xs)
sized_not sizes xs i x inside is so h =
    subst (λ l. None ≡ option_map sizes_of (sound_bounds l)) (cut_at xs i x inside is)
    (sym (ap (option_map sizes_of) (so.sound (x ∷ drop (i + 1) xs)
    ∙ ap (λ o. option_map (λ more. so.pairs ++ more) (option_and_then (λ pair. option_map (λ pairs. pair ∷ pairs) (sound_bounds (drop (i + 1) xs))) o)) (none_of (sound_bound x) h))))
  where
    none_of : (o : Option (ℤ × ℤ)) → None ≡ option_map (λ pair. cut (elements (pair ∷ []))) o → o ≡ None
    none_of None h = refl
    none_of (Some pair) h = absurd (none-some _ h)

pub sized_all : (sizes : Sizes) (xs : List Bound) (i : ℕ) → SizedSo sizes (take i xs) → take i xs ≡ xs → Some sizes ≡ option_map sizes_of (sound_bounds xs)
sized_all sizes xs i so whole =
    subst (λ l. Some sizes ≡ option_map sizes_of (sound_bounds l)) (append-nil (take i xs) ∙ whole)
    (ap Some (so.sized ∙ ap sizes_of (sym (append-nil so.pairs))) ∙ ap (option_map sizes_of) (sym (so.sound [])))

-- an element that a loop reads
own_element : {X : Type 0} (xs : List X) (i : ℕ) (d e : X) → i < length xs → get_or xs i d ≡ get_or xs i e
own_element [] i d e h = absurd (omega (arith, h))
own_element (x ∷ xs) zero d e h = refl
own_element (x ∷ xs) (suc i) d e h = own_element xs i d e (omega (arith, h))

abbrev pub bound_at : List Bound → ℕ → Bound
bound_at xs i = get_or xs i (record { first = record { minus = false; number = record { value = 0; place = 0 }; place = 0 }; second = None; place = 0 })

pub own_bound : (xs : List Bound) (i : ℕ) → i < length xs → bound_at xs i ≡ get_or xs i (bound_at xs i)
own_bound xs i inside = own_element xs i _ _ inside

abbrev pub bounds_at : List Bounds → ℕ → Bounds
bounds_at xs i = get_or xs i (record { lower = pos 0; upper = pos 0 })

pub own_bounds : (xs : List Bounds) (i : ℕ) → i < length xs → bounds_at xs i ≡ get_or xs i (bounds_at xs i)
own_bounds xs i inside = own_element xs i _ _ inside
