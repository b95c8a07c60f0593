use Rattle.std.proofs.Common.{[], map, sym, ap, ◌∙◌}
use Rattle.pearl_tree.specs.ShownExpressions.{shown_expr}
use Rattle.pearl_names.specs.Holding.{parameter_of}
use Rattle.pearl_names.specs.declared.scope.View.TheVariants.{Within}
use Rattle.pearl_resolve.specs.Expressions.{resolve_arguments}
use Rattle.pearl_resolve.specs.Statements.{arguments_in, or_no_params}
use Rattle.pearl_resolve.proofs.StatementParts.{listed_shown}
use Rattle.pearl_resolve.proofs.simple.arguments_in.Goals as goal

pub returns-in_ok-arguments-in-Some : goal.returns-in_ok-arguments-in-Some
returns-in_ok-arguments-in-Some c = λ of holds.
    let scope = c.args.scope in
    let exprs = c.args.exprs.now in
    c.in_ok-arguments-in-Some.ensures of holds
    ∙ (λ i. resolve_arguments of (Within scope) (map parameter_of (c.as_slice-parameters.ensures.value i)) (sym (listed_shown exprs) i))
    ∙ ap (λ p. arguments_in of scope (or_no_params p) (map shown_expr exprs)) (c.in-Some.ensures of holds)

pub returns-in_ok-arguments-in-None : goal.returns-in_ok-arguments-in-None
returns-in_ok-arguments-in-None c = λ of holds.
    let scope = c.args.scope in
    let exprs = c.args.exprs.now in
    c.in_ok-arguments-in-None.ensures of holds
    ∙ ap (resolve_arguments of (Within scope) []) (sym (listed_shown exprs))
    ∙ ap (λ p. arguments_in of scope (or_no_params p) (map shown_expr exprs)) (c.in-None.ensures of holds)
