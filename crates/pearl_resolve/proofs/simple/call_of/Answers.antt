use Rattle.std.proofs.Common.{List, map, ap, ◌∙◌}
use Rattle.pearl_tree.specs.declared.expression.Expr.{Expr}
use Rattle.pearl_tree.specs.ShownExpressions.{shown_expr}
use Rattle.pearl_names.specs.declared.scope.View.TheVariants.{Within}
use Rattle.pearl_program.specs.declared.expression.Call.{Call}
use Rattle.pearl_program.specs.PlainExpressions.{plain_arguments}
use Rattle.pearl_program.specs.PlainStatements.{OfCallOf}
use Rattle.pearl_resolve.specs.Expressions.{meant, number_of, params_of}
use Rattle.pearl_resolve.specs.Statements.{alone, arguments_in, or_no_params}
use Rattle.pearl_resolve.proofs.simple.call_of.Goals as goal

pub returns : goal.returns
returns c = λ of holds at.
    let parameters = or_no_params (params_of (meant of (Within c.args.scope) c.args.part.now.name)) in
    ap alone (ap (λ (x : Call). OfCallOf x.procedure (plain_arguments x.arguments.items)) c.in_ok-call.ensures.ok
    ∙ (λ i. OfCallOf (c.number_in-procedure.ensures of holds i) (c.in_ok-arguments.ensures of holds i))
    ∙ ap (λ (l : List Expr). OfCallOf (number_of of (Within c.args.scope) c.args.part.now.name) (arguments_in of c.args.scope parameters (map shown_expr l))) c.as_slice-exprs.ensures)
