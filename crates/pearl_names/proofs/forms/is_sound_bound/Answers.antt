use Rattle.std.proofs.Common.{ap, ◌∙◌, is_some, ◌∷◌, []}
use Rattle.pearl_names.specs.Counts.{cut}
use Rattle.pearl_names.specs.Layout.{elements}
use Rattle.pearl_names.specs.Shapes.{is_sound_pair, bound_pair}
use Rattle.pearl_names.proofs.Laid.{some_if}
use Rattle.pearl_names.proofs.forms.is_sound_bound.Goals as goal

pub returns : goal.returns
returns c = c.is_some.ensures ∙ ap is_some c.elements_of.ensures ∙ some_if (λ pair. cut (elements (pair ∷ []))) (is_sound_pair (bound_pair c.args.bound.now)) (bound_pair c.args.bound.now)
