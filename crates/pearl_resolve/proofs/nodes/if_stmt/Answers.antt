use Rattle.std.proofs.Common.{ap, ◌∙◌}
use Rattle.pearl_program.specs.declared.statement.If.{If}
use Rattle.pearl_program.specs.PlainExpressions.{plain_expr}
use Rattle.pearl_program.specs.PlainStatements.{OfIf, plain_stmts}
use Rattle.pearl_resolve.proofs.StatementNodes.{if_plain}
use Rattle.pearl_resolve.proofs.nodes.if_stmt.Goals as goal

pub returns : goal.returns
returns c = if_plain c.in_ok-made.made ∙ ap (λ (x : If). OfIf (plain_expr x.condition) (plain_stmts x.statements.items) (plain_stmts x.otherwise.items)) c.in_ok-made.ensures.ok
