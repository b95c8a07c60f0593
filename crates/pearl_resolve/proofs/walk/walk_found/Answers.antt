use Rattle.std.proofs.Common.{sym, subst}
use Rattle.pearl_resolve.specs.Expressions.{walk_from}
use Rattle.pearl_resolve.specs.Holding.{HoldsWalk}
use Rattle.pearl_resolve.proofs.Lookups.{meant_nothing}
use Rattle.pearl_resolve.proofs.walk.walk_found.Goals as goal

pub returns-in-None : goal.returns-in-None
returns-in-None c = λ of holds.
    let forms = c.args.numbered.now.table.forms.items in
    subst (λ m. HoldsWalk forms c.no_walk.result (walk_from m)) (sym (meant_nothing forms of c.args.found (c.in-None.ensures of.table holds.table)))
    (c.no_walk.ensures forms)
