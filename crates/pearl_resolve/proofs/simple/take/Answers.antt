use Rattle.std.proofs.Common.{ap, ◌∙◌}
use Rattle.pearl_program.specs.declared.statement.Take.{Take}
use Rattle.pearl_program.specs.PlainExpressions.{plain_variable}
use Rattle.pearl_program.specs.PlainStatements.{OfTake}
use Rattle.pearl_resolve.specs.Statements.{alone}
use Rattle.pearl_resolve.proofs.simple.take.Goals as goal

pub returns : goal.returns
returns c = λ of holds at. ap alone (
    ap (λ (x : Take). OfTake (plain_variable x.target) x.device) c.in_ok-made.ensures.ok
    ∙ (λ i. OfTake (c.in_ok-target.ensures of holds i) (c.number_in-device.ensures of holds i)))
