use Rattle.std.proofs.Common.{ap, ◌∙◌}
use Rattle.pearl_program.specs.declared.expression.Variable.{Variable}
use Rattle.pearl_program.specs.PlainExpressions.{OfRead, plain_variable}
use Rattle.pearl_resolve.proofs.PlainNodes.{read_plain}
use Rattle.pearl_resolve.proofs.making.read.Goals as goal

pub returns : goal.returns
returns c = read_plain c.in_ok-variable.variable ∙ ap (λ (v : Variable). OfRead (plain_variable v)) c.in_ok-variable.ensures.ok
