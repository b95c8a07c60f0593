use Rattle.std.proofs.Common.{ap, ◌∙◌}
use Rattle.pearl_program.specs.declared.statement.Assign.{Assign}
use Rattle.pearl_program.specs.PlainExpressions.{plain_expr, plain_variable}
use Rattle.pearl_program.specs.PlainStatements.{OfAssign}
use Rattle.pearl_resolve.specs.Statements.{alone}
use Rattle.pearl_resolve.proofs.simple.assign.Goals as goal

pub returns : goal.returns
returns c = λ of holds at. ap alone (
    ap (λ (x : Assign). OfAssign (plain_variable x.target) (plain_expr x.value)) c.in_ok-assign.ensures.ok
    ∙ (λ i. OfAssign (c.in_ok-target.ensures of holds i) (c.in_ok-value.ensures of holds i)))
