use Rattle.std.proofs.Common.{ap, ◌∙◌, option_map}
use Rattle.pearl_program.specs.declared.statement.Continue.{Continue}
use Rattle.pearl_program.specs.PlainStatements.{OfContinue, plain_once}
use Rattle.pearl_resolve.specs.Statements.{alone}
use Rattle.pearl_resolve.proofs.simple.continue_of.Goals as goal

pub returns : goal.returns
returns c = λ of holds at. ap alone (
    ap (λ (x : Continue). OfContinue x.task (option_map plain_once x.once)) c.in_ok-made.ensures.ok
    ∙ (λ i. OfContinue (c.number_in-task.ensures of holds i) (c.in_ok-once.ensures of holds i)))
