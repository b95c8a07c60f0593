-- Slots that are watched are slots of the object.
use Rattle.std.proofs.Common.{◌≡◌, ℕ, zero, suc, ◌+◌, ◌<◌, ◌≤◌, List, [], ◌∷◌, ◌++◌, Option, Some, None, slice_get, refl, ap, subst, arith}
use Rattle.std.proofs.lemmas.Option.{none-some, same_Some}
use Rattle.std.proofs.lemmas.List.Sums.{sum_by-cons}
use Rattle.std.specs.List.{AllByRecursion, sum_by}
use Rattle.pearl_instructions.specs.declared.object.Leaf.{Leaf}
use Rattle.pearl_instructions.specs.Objects.{first_slot}
use Rattle.pearl_watch.specs.declared.watched.Watched.{Watched}
use Rattle.pearl_watch.specs.Watched.{leaf_named, name_at, slots_from, slots_named, slots_of, watched_by}

-- the slots of a leaf end within those of all
leaf_within : (leaves : List Leaf) (v : ℕ) (leaf : Leaf) → slice_get leaves v ≡ Some leaf → first_slot leaves v + leaf.slots ≤ sum_by (λ leaf. leaf.slots) leaves
leaf_within [] v leaf at = absurd (none-some leaf at)
leaf_within (x ∷ leaves) zero leaf at =
    let all = sum_by-cons (λ (l : Leaf). l.slots) x leaves in
    let same : x.slots ≡ leaf.slots = ap (λ l. l.slots) (same_Some x leaf at) in
    omega (arith, all, same)
leaf_within (x ∷ leaves) (suc v) leaf at =
    let all = sum_by-cons (λ (l : Leaf). l.slots) x leaves in
    let before = leaf_within leaves v leaf at in
    omega (arith, all, before)

-- all of these slots are below a number
abbrev AreBelow : ℕ → List Watched → Type 0
AreBelow count watched = AllByRecursion (λ (s : Watched). s.slot < count) watched

joined_below : (count : ℕ) (a b : List Watched) → AreBelow count a → AreBelow count b → AreBelow count (a ++ b)
joined_below count [] b first second = second
joined_below count (s ∷ a) b first second = (first.0, joined_below count a b first.1 second)

from_below : (name first most count : ℕ) → first + most ≤ count → AreBelow count (slots_from name first most)
from_below name first zero count within = tt
from_below name first (suc most) count within =
    joined_below count (slots_from name first most) (record { name = name; number = most; slot = first + most } ∷ [])
    (from_below name first most count (omega (arith, within))) (omega (arith, within), tt)

of_below : (leaves : List Leaf) (name v : ℕ) (leaf : Option Leaf) → slice_get leaves v ≡ leaf →
    AreBelow (sum_by (λ leaf. leaf.slots) leaves) (slots_of leaves name v leaf)
of_below leaves name v None at = tt
of_below leaves name v (Some leaf) at = from_below name (first_slot leaves v) leaf.slots _ (leaf_within leaves v leaf at)

named_below : (leaves : List Leaf) (name : ℕ) (leaf : Option ℕ) → AreBelow (sum_by (λ leaf. leaf.slots) leaves) (slots_named leaves name leaf)
named_below leaves name None = tt
named_below leaves name (Some v) = of_below leaves name v (slice_get leaves v) refl

watched_below : (leaves : List Leaf) (names : List (List ℕ)) (count : ℕ) → AreBelow (sum_by (λ leaf. leaf.slots) leaves) (watched_by leaves names count)
watched_below leaves names zero = tt
watched_below leaves names (suc name) =
    joined_below _ (watched_by leaves names name) (slots_named leaves name (leaf_named leaves (name_at names name))) (watched_below leaves names name)
    (named_below leaves name (leaf_named leaves (name_at names name)))

each_below : (count : ℕ) (watched : List Watched) (place : ℕ) (s : Watched) → AreBelow count watched → slice_get watched place ≡ Some s → s.slot < count
each_below count [] place s all at = absurd (none-some s at)
each_below count (x ∷ watched) zero s all at = subst (λ (w : Watched). w.slot < count) (same_Some x s at) all.0
each_below count (x ∷ watched) (suc place) s all at = each_below count watched place s all.1 at

pub watched_slots_there : (leaves : List Leaf) (names : List (List ℕ)) (count place : ℕ) (s : Watched) →
    slice_get (watched_by leaves names count) place ≡ Some s → s.slot < sum_by (λ leaf. leaf.slots) leaves
watched_slots_there leaves names count place s at = each_below _ (watched_by leaves names count) place s (watched_below leaves names count) at
