-- How many leaves and cells a form has in memory, and in the definitions.
use Rattle.std.proofs.Common.{◌≡◌, ℕ, List, [], ◌∷◌, length, Option, Some, None, refl, ap, ◌∙◌}
use Rattle.std.specs.List.{sum_by}
use Rattle.std.proofs.lemmas.List.{length-replicate}
use Rattle.std.proofs.lemmas.List.Sums.{sum_by-cons}
use Rattle.std.proofs.lemmas.List.Concat.{length-flat_map}
use Rattle.pearl_names.specs.Counts.{cut, counts}
use Rattle.pearl_names.specs.Layout.{Leaf, elements, leaf_slots, leaves_of, slots_of}
use Rattle.pearl_names.specs.declared.sense.Form.{Form as HeldForm}
use Rattle.pearl_names.specs.declared.types.Counts.{Counts}
use Rattle.pearl_names.specs.declared.types.StructForm.{StructForm}
use Rattle.pearl_names.specs.Holding.{HoldsForm}
use Rattle.pearl_names.specs.Tables.{Form, leaves_in}
use Rattle.pearl_resolve.specs.Laying.{slots}

same_sums : {X : Type 0} (f g : X → ℕ) → ((x : X) → f x ≡ g x) → (xs : List X) → sum_by f xs ≡ sum_by g xs
same_sums f g same [] = refl
same_sums f g same (x ∷ xs) = rw (sum_by-cons f x xs, sum_by-cons g x xs, same x, same_sums f g same xs) refl

leaf_length : (leaf : Leaf) → length (leaf_slots leaf) ≡ elements leaf.bounds
leaf_length leaf = length-replicate (elements leaf.bounds) leaf.kind

slots_length : (leaves : List Leaf) → length (slots_of leaves) ≡ slots leaves
slots_length leaves =
    length-flat_map leaf_slots leaves ∙ same_sums (λ leaf. length (leaf_slots leaf)) (λ leaf. elements leaf.bounds) leaf_length leaves

slots_counted : (leaves : List Leaf) → (counts leaves).slots ≡ cut (slots leaves)
unfolding counts
slots_counted leaves = ap cut (slots_length leaves)

leaves_counted : (leaves : List Leaf) → (counts leaves).leaves ≡ cut (length leaves)
unfolding counts
leaves_counted leaves = refl

-- what is counted of a form that is held in memory
abbrev Counted : List StructForm → HeldForm → Counts → Type 0
Counted forms held counted = (of : Form) → HoldsForm forms (Some held) (Some of) → counted ≡ counts (leaves_of [] of.bounds of.shape)

pub form_slots : (forms : List StructForm) (held : HeldForm) (of : Option Form) (counted : Counts) (found : ℕ) → HoldsForm forms (Some held) of → Counted forms held counted →
    ((n : ℕ) → counted.slots ≡ cut n → found ≡ n) → found ≡ slots (leaves_in of)
form_slots forms held None counted found h is whole = absurd h
form_slots forms held (Some of) counted found h is whole =
    whole _ (ap (λ (k : Counts). k.slots) (is of h) ∙ slots_counted (leaves_of [] of.bounds of.shape))

pub form_leaves : (forms : List StructForm) (held : HeldForm) (of : Option Form) (counted : Counts) (found : ℕ) → HoldsForm forms (Some held) of → Counted forms held counted →
    ((n : ℕ) → counted.leaves ≡ cut n → found ≡ n) → found ≡ length (leaves_in of)
form_leaves forms held None counted found h is whole = absurd h
form_leaves forms held (Some of) counted found h is whole =
    whole _ (ap (λ (k : Counts). k.leaves) (is of h) ∙ leaves_counted (leaves_of [] of.bounds of.shape))
