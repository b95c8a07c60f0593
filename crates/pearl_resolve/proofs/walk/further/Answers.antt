use Rattle.std.proofs.Common.{◌+◌, ◌*◌, ap, ◌∙◌}
use Rattle.pearl_resolve.proofs.walk.further.Goals as goal

pub returns : goal.returns
returns c = λ n is. c.in_ok-after.ensures
    ∙ ap (λ d. c.args.number + d) (c.in_ok-distance.ensures ∙ ap (λ k. c.args.times * k) (c.from.ensures ∙ c.in_ok-count.ensures n is))
