use Rattle.std.proofs.Common.{ap, ◌∙◌}
use Rattle.pearl_program.specs.declared.statement.Case.{out-Case, out-roll-Case}
use Rattle.pearl_program.specs.PlainExpressions.{plain_expr}
use Rattle.pearl_program.specs.PlainStatements.{OfCase, plain_stmts, plain_branches}
use Rattle.pearl_resolve.proofs.StatementNodes.{case_plain}
use Rattle.pearl_resolve.proofs.nodes.case_stmt.Goals as goal

pub returns : goal.returns
returns c =
    let is = ap out-Case c.in_ok-made.ensures.ok
    ∙ out-roll-Case (record { selector = c.args.selector; alternatives = c.args.alternatives; otherwise = c.args.otherwise }) in
    case_plain c.in_ok-made.made
    ∙ ap (λ p. OfCase (plain_expr p.selector) (plain_branches p.alternatives.items) (plain_stmts p.otherwise.items)) is
