use Rattle.std.proofs.Common.{ap}
use Rattle.pearl_program.specs.PlainStatements.{OfEnable, OfDisable, OfTrigger}
use Rattle.pearl_resolve.specs.Statements.{alone}
use Rattle.pearl_resolve.proofs.simple.on_interrupt.Goals as goal

pub returns-in-Enable : goal.returns-in-Enable
returns-in-Enable c = λ of holds at. rw c.in-Enable.is (ap (λ t. alone (OfEnable t)) (c.number_in-interrupt.ensures of holds))

pub returns-in-Disable : goal.returns-in-Disable
returns-in-Disable c = λ of holds at. rw c.in-Disable.is (ap (λ t. alone (OfDisable t)) (c.number_in-interrupt.ensures of holds))

pub returns-in-Trigger : goal.returns-in-Trigger
returns-in-Trigger c = λ of holds at. rw c.in-Trigger.is (ap (λ t. alone (OfTrigger t)) (c.number_in-interrupt.ensures of holds))
