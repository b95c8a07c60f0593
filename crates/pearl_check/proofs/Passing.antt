-- Sums over what the names of scopes stand for, one name at a time: what is told so far, with what is still to be told.
use Rattle.std.proofs.Common.{◌≡◌, ℕ, zero, suc, ◌+◌, ◌-◌, ◌≤◌, ◌^◌, ◌&&◌, nat_lt, nat_le, List, [], ◌∷◌, ◌++◌, unwrap_or, slice_get, take, drop, length, get_or, subst, refl, ap, sym, ◌∙◌, append_assoc, arith}
use Rattle.std.proofs.lemmas.Slice.{first_rest}
use Rattle.std.proofs.lemmas.List.Sums.{sum_by-append}
use Rattle.std.specs.List.{flat_map, sum_by}
use Rattle.pearl_tree.specs.declared.fault.RuleFault.{RuleFault}
use Rattle.pearl_tree.specs.Faults.{fault_if}
use Rattle.pearl_names.specs.declared.scope.SortedName.{SortedName}
use Rattle.pearl_names.specs.declared.sense.Sense.{Sense as HeldSense}
use Rattle.pearl_names.specs.declared.types.StructForm.{StructForm}
use Rattle.pearl_names.specs.Counts.{cut}
use Rattle.pearl_names.specs.Holding.{HoldsAll, HoldsSense}
use Rattle.pearl_names.specs.Tables.{Sense}
use Rattle.pearl_check.specs.Sizes.{size_of, passed, with_senses, long_leaf_fault}
use Rattle.pearl_check.proofs.Limits.{size_of-cons}

-- CELLS

summed : {X : Type 0} (f : X → ℕ) (x : X) (xs : List X) → sum_by f (x ∷ xs) ≡ f x + sum_by f xs
summed f x xs = let e : 0 + f x ≡ f x = omega arith in sum_by-append f (x ∷ []) xs ∙ ap (λ n. n + sum_by f xs) e

abbrev pub Sums : (Sense → ℕ) → List StructForm → (all left : List HeldSense) → ℕ → Type 0
Sums size forms all left sum = (of : List Sense) → HoldsAll forms all of →
    (rest : List Sense) × HoldsAll forms left rest × (sum ≤ 2 ^ 31) × (cut (sum + cut (sum_by size rest)) ≡ cut (sum_by size of))

-- the next of some scopes
pub next_scope : (size : List Sense → ℕ) → size [] ≡ 0 → (senses : List (List Sense)) (n : ℕ) →
    sum_by size (take (suc n) senses) ≡ sum_by size (take n senses) + size (unwrap_or (slice_get senses n) [])
next_scope size none [] zero = ap (λ k. 0 + k) (sym none)
next_scope size none [] (suc n) = ap (λ k. 0 + k) (sym none)
next_scope size none (first ∷ rest) zero = refl
next_scope size none (first ∷ rest) (suc n) =
    let here = next_scope size none rest n in
    let more = summed size first (take (suc n) rest) in
    let fewer = summed size first (take n rest) in
    omega (arith, here, more, fewer)

scope_at : (senses : List (List Sense)) (first n : ℕ) → slice_get (drop first senses) n ≡ slice_get senses (first + n)
scope_at senses zero n = let e : n ≡ 0 + n = omega arith in ap (slice_get senses) e
scope_at [] (suc first) n = refl
scope_at (scope ∷ rest) (suc first) n =
    let e : suc (first + n) ≡ suc first + n = omega arith in scope_at rest first n ∙ ap (slice_get (scope ∷ rest)) e

pub scopes_more : (size : List Sense → ℕ) → size [] ≡ 0 → (senses : List (List Sense)) (first scope sum own next : ℕ) → first ≤ scope →
    sum ≡ cut (sum_by size (take (scope - first) (drop first senses))) → own ≡ cut (size (unwrap_or (slice_get senses scope) [])) →
    next ≡ cut (sum + own) → next ≡ cut (sum_by size (take (scope + 1 - first) (drop first senses)))
scopes_more size none senses first scope sum own next after sums is adds =
    let n = scope - first in
    let at : first + n ≡ scope = omega (arith, after) in
    let one : scope + 1 - first ≡ suc n = omega (arith, after) in
    let here : slice_get (drop first senses) n ≡ slice_get senses scope = scope_at senses first n ∙ ap (slice_get senses) at in
    let more = next_scope size none (drop first senses) n ∙ ap (λ found. sum_by size (take n (drop first senses)) + size (unwrap_or found [])) here in
    let cut_off : next ≡ cut (sum_by size (take n (drop first senses)) + size (unwrap_or (slice_get senses scope) [])) =
    both sum own next (sum_by size (take n (drop first senses))) (size (unwrap_or (slice_get senses scope) [])) sums is adds in
    cut_off ∙ ap cut (sym more) ∙ ap (λ k. cut (sum_by size (take k (drop first senses)))) (sym one)
  where
    both : (sum own next a b : ℕ) → sum ≡ cut a → own ≡ cut b → next ≡ cut (sum + own) → next ≡ cut (a + b)
    both sum own next a b x y z = omega arith

-- SIZES

abbrev pub Passes : (Sense → ℕ) → ℕ → List StructForm → (all left : List HeldSense) → (names others : List SortedName) → ℕ → (old new : List RuleFault) → Type 0
Passes size limit forms all left names others before old new = (of : List Sense) → HoldsAll forms all of →
    (rest : List Sense) × (exact : ℕ) × HoldsAll forms left rest × (before ≡ cut exact) ×
    (exact + size_of size (with_senses others rest) ≡ size_of size (with_senses names of)) ×
    (new ++ passed size limit exact (with_senses others rest) ≡ old ++ passed size limit 0 (with_senses names of))

rest_of : {X : Type 0} (xs : List X) (x : X) → 1 ≤ length xs → x ≡ get_or xs 0 x → xs ≡ x ∷ take (length xs - 1) (drop 1 xs)
rest_of xs x some is = first_rest xs x some ∙ ap (λ y. y ∷ take (length xs - 1) (drop 1 xs)) (sym is)

-- one name more, with what it stands for
pub passes_next : (size : Sense → ℕ) (limit : ℕ) (forms : List StructForm) (all senses : List HeldSense) (names others : List SortedName)
    (entry : SortedName) (sense : HeldSense) (before after : ℕ) (old new added : List RuleFault) →
    1 ≤ length others → entry ≡ get_or others 0 entry → 1 ≤ length senses → sense ≡ get_or senses 0 sense →
    Passes size limit forms all senses names others before old new →
    ((of : Sense) (exact : ℕ) → HoldsSense forms sense of → before ≡ cut exact → after ≡ cut (exact + size of)) →
    ((of : Sense) (exact : ℕ) → HoldsSense forms sense of → before ≡ cut exact →
    added ≡ new ++ fault_if (nat_le exact limit && nat_lt limit (exact + size of)) entry.name.place 34) →
    Passes size limit forms all (take (length senses - 1) (drop 1 senses)) names (take (length others - 1) (drop 1 others)) after old added
passes_next size limit forms all senses names others entry sense before after old new added some_names named some_senses stands earlier sums tells of holds =
    by (subst (λ n. Left (sense ∷ left) n) (rest_of others entry some_names named) (subst (λ s. Left s others) (rest_of senses sense some_senses stands) (earlier of holds)))
  where
    Left : List HeldSense → List SortedName → Type 0
    Left senses others = (rest : List Sense) × (exact : ℕ) × HoldsAll forms senses rest × (before ≡ cut exact) ×
        (exact + size_of size (with_senses others rest) ≡ size_of size (with_senses names of)) ×
        (new ++ passed size limit exact (with_senses others rest) ≡ old ++ passed size limit 0 (with_senses names of))

    left : List HeldSense
    left = take (length senses - 1) (drop 1 senses)

    more : List SortedName
    more = take (length others - 1) (drop 1 others)

    by : (rest : List Sense) × (exact : ℕ) × HoldsAll forms (sense ∷ left) rest × (before ≡ cut exact) ×
        (exact + size_of size (with_senses (entry ∷ more) rest) ≡ size_of size (with_senses names of)) ×
        (new ++ passed size limit exact (with_senses (entry ∷ more) rest) ≡ old ++ passed size limit 0 (with_senses names of)) →
        (rest : List Sense) × (exact : ℕ) × HoldsAll forms left rest × (after ≡ cut exact) ×
        (exact + size_of size (with_senses more rest) ≡ size_of size (with_senses names of)) ×
        (added ++ passed size limit exact (with_senses more rest) ≡ old ++ passed size limit 0 (with_senses names of))
    by ([], exact, these, cut_off, whole, same) = absurd these
    by (one ∷ rest, exact, these, cut_off, whole, same) = (
      rest,
      exact + size one,
      these.1,
      sums one exact these.0 cut_off,
      let more_of = size_of-cons size (record { name = entry.name; sense = one }) (with_senses more rest) in omega (arith, whole, more_of),
      ap (λ l. l ++ passed size limit (exact + size one) (with_senses more rest)) (tells one exact these.0 cut_off) ∙ append_assoc new _ _ ∙ same,
    )

-- LONG NAMES

abbrev pub Tells : List StructForm → (all left : List HeldSense) → (names others : List SortedName) → (old new : List RuleFault) → Type 0
Tells forms all left names others old new = (of : List Sense) → HoldsAll forms all of →
    (rest : List Sense) × HoldsAll forms left rest ×
    (new ++ flat_map long_leaf_fault (with_senses others rest) ≡ old ++ flat_map long_leaf_fault (with_senses names of))
