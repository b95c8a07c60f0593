use Rattle.std.proofs.Common.{ap, ◌∙◌}
use Rattle.pearl_watch.specs.Changes.{is_same}
use Rattle.pearl_watch.proofs.SameValues.{same_is, same_refl}
use Rattle.pearl_watch.proofs.laws.tells_values_apart.Goals as goal

pub returns : goal.returns
returns c = λ x y value. (same_is x y value, λ e. ap (λ z. is_same z y) e ∙ same_refl y)
