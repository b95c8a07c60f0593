use Rattle.pearl_check_expr.proofs.Standings.{kind_stands}
use Rattle.pearl_check_expr.proofs.standing.kind_standing.Goals as goal

pub returns-in-Some : goal.returns-in-Some
returns-in-Some c = λ forms. rw c.in-Some.is (kind_stands forms c.in-Some.kind)
