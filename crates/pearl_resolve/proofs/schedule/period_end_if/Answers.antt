use Rattle.std.proofs.Common.{Some, ap}
use Rattle.pearl_resolve.proofs.schedule.period_end_if.Goals as goal

pub returns-in_ok-made-in-Some : goal.returns-in_ok-made-in-Some
returns-in_ok-made-in-Some c = λ of holds. rw c.in-Some.is (ap Some (c.in_ok-made-in-Some.ensures of holds))
