use Rattle.std.proofs.Common.{ap, ◌∙◌, option_map}
use Rattle.pearl_program.specs.declared.statement.Return.{Return}
use Rattle.pearl_program.specs.PlainExpressions.{plain_expr}
use Rattle.pearl_program.specs.PlainStatements.{OfReturn}
use Rattle.pearl_resolve.specs.Statements.{alone}
use Rattle.pearl_resolve.proofs.simple.return_of.Goals as goal

pub returns : goal.returns
returns c = λ of holds at. ap alone (
    ap (λ (x : Return). OfReturn (option_map plain_expr x.value)) c.in_ok-made.ensures.ok ∙ ap OfReturn (c.in_ok-value.ensures of holds))
