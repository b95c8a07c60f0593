use Rattle.std.proofs.Common.{ap, ◌∙◌}
use Rattle.pearl_program.specs.declared.statement.Send.{Send}
use Rattle.pearl_program.specs.PlainExpressions.{plain_expr}
use Rattle.pearl_program.specs.PlainStatements.{OfSend}
use Rattle.pearl_resolve.specs.Statements.{alone}
use Rattle.pearl_resolve.proofs.simple.send.Goals as goal

pub returns : goal.returns
returns c = λ of holds at. ap alone (
    ap (λ (x : Send). OfSend (plain_expr x.value) x.device) c.in_ok-made.ensures.ok
    ∙ (λ i. OfSend (c.in_ok-value.ensures of holds i) (c.number_in-device.ensures of holds i)))
