use Rattle.std.proofs.Common.{sym, ◌∙◌}
use Rattle.pearl_check_expr.proofs.Standings.{no_element}
use Rattle.pearl_check_expr.proofs.standing.element_of.Goals as goal

pub returns-in_ok-stopped-in-Open : goal.returns-in_ok-stopped-in-Open
returns-in_ok-stopped-in-Open c = λ forms from parts h are.
    rw (no_element forms c.in-Open.dimensions c.in-Open.part from c.args.subscripts parts c.args.name.now (sym c.fit.ensures ∙ c.if-fit.false) (rw c.in-Open.is at h) are) (c.in_ok-stopped-in-Open.ensures forms)
