use Rattle.pearl_check_expr.proofs.Standings.{found_field, missed_field}
use Rattle.pearl_check_expr.proofs.standing.field_at.Goals as goal

pub returns-in-Some : goal.returns-in-Some
returns-in-Some c = λ shape h.
    rw c.field_standing.ensures (found_field c.args.forms.now c.args.number shape c.args.name.now c.in-Some.field c.field_of.result c.args.found.now.items c.in-Some.is c.field_of.ensures h)

pub returns-in_ok-stopped-in-None : goal.returns-in_ok-stopped-in-None
returns-in_ok-stopped-in-None c = λ shape h.
    rw (missed_field c.args.forms.now c.args.number shape c.args.name.now c.field_of.result c.in-None.is c.field_of.ensures h) (c.in_ok-stopped-in-None.ensures c.args.forms.now)
