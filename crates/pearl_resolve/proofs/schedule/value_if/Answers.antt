use Rattle.std.proofs.Common.{Some, ap}
use Rattle.pearl_resolve.proofs.schedule.value_if.Goals as goal

pub returns-in_ok-e-in-Some : goal.returns-in_ok-e-in-Some
returns-in_ok-e-in-Some c = λ of holds. rw c.in-Some.is (ap Some (c.in_ok-e-in-Some.ensures of holds))
