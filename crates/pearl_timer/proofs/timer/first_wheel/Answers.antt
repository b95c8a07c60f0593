use Rattle.pearl_timer.proofs.KeptLaws.{kept_at_first}
use Rattle.pearl_timer.proofs.timer.first_wheel.Goals as goal

pub returns : goal.returns
returns c = rw (c.in_ok-wheel.ensures) (kept_at_first c.args.tasks c.if-tasks-gt200.false)
