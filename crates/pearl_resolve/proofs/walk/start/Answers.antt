use Rattle.std.proofs.Common.{subst}
use Rattle.std.specs.Option.{option_and_then}
use Rattle.pearl_resolve.specs.Expressions.{meant_at, walk_from}
use Rattle.pearl_resolve.specs.Holding.{HoldsWalk}
use Rattle.pearl_resolve.proofs.walk.start.Goals as goal

pub returns-in-None : goal.returns-in-None
returns-in-None c = λ of holds.
    let forms = c.args.numbered.now.table.forms.items in
    subst (λ f. HoldsWalk forms c.no_walk.result (walk_from (option_and_then (meant_at of) f))) (c.in-None.ensures of.table holds.table)
    (c.no_walk.ensures forms)
