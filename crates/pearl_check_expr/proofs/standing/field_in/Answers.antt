use Rattle.pearl_check_expr.proofs.Standings.{no_field}
use Rattle.pearl_check_expr.proofs.standing.field_in.Goals as goal

pub returns-in_ok-stopped-in-Basic : goal.returns-in_ok-stopped-in-Basic
returns-in_ok-stopped-in-Basic c = λ shape h.
    rw (no_field c.args.forms.now c.in-Basic.field-0 shape c.args.name.now (rw c.in-Basic.is at h)) (c.in_ok-stopped-in-Basic.ensures c.args.forms.now)
