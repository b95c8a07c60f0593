use Rattle.std.proofs.Common.{[], subst}
use Rattle.pearl_names.specs.Shapes.{OfKind}
use Rattle.pearl_resolve.specs.Expressions.{begun}
use Rattle.pearl_resolve.specs.Holding.{HoldsWalk}
use Rattle.pearl_resolve.proofs.walk.parameter_walk.Goals as goal

pub returns : goal.returns
returns c = λ forms.
    subst (λ walk. HoldsWalk forms c.kind_walk.result walk) (λ i. begun (c.own_or_param.ensures i) [] (OfKind (c.kind_or_short.ensures i)))
    (c.kind_walk.ensures forms)
