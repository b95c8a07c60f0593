use Rattle.std.proofs.Common.{sym, refl, append-nil}
use Rattle.pearl_check_expr.proofs.Standings.{kind_value, no_kind}
use Rattle.pearl_check_expr.proofs.standing.kind_in.Goals as goal

pub returns-in-Basic : goal.returns-in-Basic
returns-in-Basic c = λ forms shape h.
    rw (kind_value forms c.in-Basic.kind shape c.args.name.now (rw c.in-Basic.is at h)) (record { same = refl; added = sym (append-nil _) })

pub returns-in_ok-none-in-Struct : goal.returns-in_ok-none-in-Struct
returns-in_ok-none-in-Struct c = λ forms shape h.
    rw (no_kind forms c.in-Struct.field-0 shape c.args.name.now (rw c.in-Struct.is at h)) c.in_ok-none-in-Struct.ensures
