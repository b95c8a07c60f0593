use Rattle.std.proofs.Common.{ap}
use Rattle.pearl_program.specs.PlainStatements.{OnceAt, OnceAfter, OnceWhen}
use Rattle.pearl_resolve.proofs.schedule.once_in.Goals as goal

pub returns-in_ok-time-in-At : goal.returns-in_ok-time-in-At
returns-in_ok-time-in-At c = λ of holds. rw c.in-At.is (ap OnceAt (c.in_ok-time-in-At.ensures of holds))

pub returns-in_ok-duration-in-After : goal.returns-in_ok-duration-in-After
returns-in_ok-duration-in-After c = λ of holds. rw c.in-After.is (ap OnceAfter (c.in_ok-duration-in-After.ensures of holds))

pub returns-in-When : goal.returns-in-When
returns-in-When c = λ of holds. rw c.in-When.is (ap OnceWhen (c.number_in.ensures of holds))
