use Rattle.std.proofs.Common.{ap}
use Rattle.pearl_program.specs.PlainStatements.{OfUntil, OfDuring}
use Rattle.pearl_resolve.proofs.schedule.period_end_in.Goals as goal

pub returns-in_ok-time-in-Until : goal.returns-in_ok-time-in-Until
returns-in_ok-time-in-Until c = λ of holds. rw c.in-Until.is (ap OfUntil (c.in_ok-time-in-Until.ensures of holds))

pub returns-in_ok-duration-in-During : goal.returns-in_ok-duration-in-During
returns-in_ok-duration-in-During c = λ of holds. rw c.in-During.is (ap OfDuring (c.in_ok-duration-in-During.ensures of holds))
