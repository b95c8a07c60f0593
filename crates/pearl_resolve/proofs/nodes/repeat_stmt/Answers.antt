use Rattle.std.proofs.Common.{ap, ◌∙◌, option_map}
use Rattle.pearl_program.specs.declared.statement.Repeat.{Repeat}
use Rattle.pearl_program.specs.PlainExpressions.{plain_expr}
use Rattle.pearl_program.specs.PlainStatements.{OfRepeat, plain_counter, plain_stmts}
use Rattle.pearl_resolve.proofs.StatementNodes.{repeat_plain}
use Rattle.pearl_resolve.proofs.nodes.repeat_stmt.Goals as goal

pub returns : goal.returns
returns c = repeat_plain c.in_ok-made.made
    ∙ ap (λ (x : Repeat). OfRepeat (option_map plain_counter x.counter) (option_map plain_expr x.condition) (plain_stmts x.statements.items)) c.in_ok-made.ensures.ok
