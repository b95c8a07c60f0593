-- Leaves that are not sound, by their counts.
use Rattle.std.proofs.Common.{◌≡◌, false, not, List, Option, Some, None, option_map, refl, sym, ap, ◌∙◌}
use Rattle.std.proofs.lemmas.Option.{none-some, same_Some}
use Rattle.pearl_names.specs.declared.types.Counts.{Counts}
use Rattle.pearl_names.specs.Counts.{counts, has_sound_leaves}
use Rattle.pearl_names.specs.Layout.{Leaf}
use Rattle.pearl_names.proofs.Offered.{sound_counts}
use Rattle.pearl_scope.specs.Rules.{has_unsound_leaf}

pub unsound_counts : (counted : Counts) (leaves : Option (List Leaf)) → Some counted ≡ option_map counts leaves → not (has_sound_leaves counted) ≡ has_unsound_leaf leaves
unsound_counts counted None h = absurd (none-some counted (sym h))
unsound_counts counted (Some leaves) h = ap (λ k. not (has_sound_leaves k)) (same_Some counted (counts leaves) h) ∙ ap not (sound_counts leaves)

pub no_counts : (leaves : Option (List Leaf)) → None ≡ option_map counts leaves → false ≡ has_unsound_leaf leaves
no_counts None h = refl
no_counts (Some leaves) h = absurd (none-some (counts leaves) h)
