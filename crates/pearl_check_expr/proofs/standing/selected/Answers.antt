use Rattle.std.proofs.Common.{arith}
use Rattle.pearl_check_expr.proofs.Standings.{component_of_array}
use Rattle.pearl_check_expr.proofs.standing.selected.Goals as goal

pub returns-in_ok-stopped-in-Open : goal.returns-in_ok-stopped-in-Open
returns-in_ok-stopped-in-Open c = λ from h.
    rw (component_of_array c.args.forms.now c.in-Open.dimensions c.in-Open.part from c.args.name.now c.args.component.now (omega arith) (rw c.in-Open.is at h)) (c.in_ok-stopped-in-Open.ensures c.args.forms.now)
