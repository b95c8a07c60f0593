use Rattle.std.proofs.Common.{Some, ap}
use Rattle.pearl_program.specs.PlainStatements.{OfAt, OfAfter}
use Rattle.pearl_resolve.proofs.schedule.start_in.Goals as goal

pub returns-in_ok-time-in-At : goal.returns-in_ok-time-in-At
returns-in_ok-time-in-At c = λ of holds. rw c.in-At.is (ap (λ e. Some (OfAt e)) (c.in_ok-time-in-At.ensures of holds))

pub returns-in_ok-duration-in-After : goal.returns-in_ok-duration-in-After
returns-in_ok-duration-in-After c = λ of holds. rw c.in-After.is (ap (λ e. Some (OfAfter e)) (c.in_ok-duration-in-After.ensures of holds))

pub returns-in_ok-start-in-When : goal.returns-in_ok-start-in-When
returns-in_ok-start-in-When c = λ of holds. rw c.in-When.is (ap Some (c.in_ok-start-in-When.ensures of holds))
