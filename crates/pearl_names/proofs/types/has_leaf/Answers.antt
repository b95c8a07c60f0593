use Rattle.std.proofs.Common.{nat_lt, ap, ◌∙◌}
use Rattle.pearl_names.proofs.Walking.{leaf_counted}
use Rattle.pearl_names.proofs.types.has_leaf.Goals as goal

pub returns : goal.returns
returns c = λ shape h. ap (λ k. nat_lt 0 k.leaves) (c.counts_of.ensures shape h) ∙ leaf_counted shape
