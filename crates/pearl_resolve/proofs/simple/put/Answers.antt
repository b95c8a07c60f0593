use Rattle.std.proofs.Common.{List, map, ap, ◌∙◌}
use Rattle.pearl_tree.specs.declared.expression.Expr.{Expr}
use Rattle.pearl_tree.specs.ShownExpressions.{shown_expr}
use Rattle.pearl_program.specs.declared.statement.Put.{Put}
use Rattle.pearl_program.specs.PlainExpressions.{plain_exprs}
use Rattle.pearl_program.specs.PlainStatements.{OfPut}
use Rattle.pearl_resolve.specs.Statements.{alone, values_in}
use Rattle.pearl_resolve.proofs.simple.put.Goals as goal

pub returns : goal.returns
returns c = λ of holds. ap alone (
    ap (λ (x : Put). OfPut (plain_exprs x.values.items) x.device x.format) c.in_ok-made.ensures.ok
    ∙ (λ i. OfPut ((c.in_ok-values.ensures of holds ∙ ap (λ (l : List Expr). values_in of c.args.scope (map shown_expr l)) c.as_slice.ensures) i)
    (c.number_in-device.ensures of holds i) c.args.at.format))
