use Rattle.std.proofs.Common.{sym, ap, ◌∙◌}
use Rattle.pearl_tree.specs.ShownExpressions.{shown_expr_list}
use Rattle.pearl_names.specs.declared.scope.View.TheVariants.{Within}
use Rattle.pearl_program.specs.PlainExpressions.{plain_exprs}
use Rattle.pearl_resolve.specs.Expressions.{joined_exprs, resolve_exprs}
use Rattle.pearl_resolve.proofs.StatementParts.{listed_shown}
use Rattle.pearl_resolve.proofs.simple.values_in.Goals as goal

pub returns : goal.returns
returns c = λ of holds.
    let view = Within c.args.scope in
    c.in_ok-add_exprs.ensures of holds
    ∙ ap (λ l. joined_exprs (plain_exprs l) (resolve_exprs of view (shown_expr_list c.args.exprs.now))) c.new-values.ensures.items
    ∙ ap (resolve_exprs of view) (sym (listed_shown c.args.exprs.now))
