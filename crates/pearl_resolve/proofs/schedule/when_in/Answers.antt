use Rattle.std.proofs.Common.{ap}
use Rattle.pearl_program.specs.PlainStatements.{OfWhen, OfWhenAfter}
use Rattle.pearl_resolve.proofs.schedule.when_in.Goals as goal

pub returns-in_ok-duration-in-Some : goal.returns-in_ok-duration-in-Some
returns-in_ok-duration-in-Some c = λ of holds. rw c.in-Some.is
    (λ i. OfWhenAfter (c.number_in-interrupt.ensures of holds i) (c.in_ok-duration-in-Some.ensures of holds i))

pub returns-in-None : goal.returns-in-None
returns-in-None c = λ of holds. rw c.in-None.is (ap OfWhen (c.number_in-interrupt.ensures of holds))
