use Rattle.std.proofs.Common.{ap}
use Rattle.pearl_program.specs.PlainStatements.{OfSuspend, OfTerminate, OfPrevent}
use Rattle.pearl_resolve.specs.Statements.{alone}
use Rattle.pearl_resolve.proofs.simple.on_task.Goals as goal

pub returns-in-Suspend : goal.returns-in-Suspend
returns-in-Suspend c = λ of holds at. rw c.in-Suspend.is (ap (λ t. alone (OfSuspend t)) (c.number_if-task.ensures of holds))

pub returns-in-Terminate : goal.returns-in-Terminate
returns-in-Terminate c = λ of holds at. rw c.in-Terminate.is (ap (λ t. alone (OfTerminate t)) (c.number_if-task.ensures of holds))

pub returns-in-Prevent : goal.returns-in-Prevent
returns-in-Prevent c = λ of holds at. rw c.in-Prevent.is (ap (λ t. alone (OfPrevent t)) (c.number_if-task.ensures of holds))
