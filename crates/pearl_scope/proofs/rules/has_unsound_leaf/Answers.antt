use Rattle.std.proofs.Common.{sym, ap, ◌∙◌, not}
use Rattle.pearl_scope.proofs.Unsound.{unsound_counts, no_counts}
use Rattle.pearl_scope.proofs.rules.has_unsound_leaf.Goals as goal

pub returns-in-Some : goal.returns-in-Some
returns-in-Some c = λ leaves h. ap not c.has_sound_leaves.ensures ∙ unsound_counts c.in-Some.counts leaves (sym c.in-Some.is ∙ h)

pub returns-in-None : goal.returns-in-None
returns-in-None c = λ leaves h. no_counts leaves (sym c.in-None.is ∙ h)
