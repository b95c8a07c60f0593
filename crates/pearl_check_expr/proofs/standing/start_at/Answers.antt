use Rattle.pearl_check_expr.proofs.Standings.{no_start}
use Rattle.pearl_check_expr.proofs.standing.start_at.Goals as goal

pub returns-in_ok-start-in-None : goal.returns-in_ok-start-in-None
returns-in_ok-start-in-None c = λ forms of h.
    rw (no_start forms c.args.standing of c.args.name.now c.in-None.is h) (c.in_ok-start-in-None.ensures forms)
