use Rattle.std.proofs.Common.{◌++◌, ap, ◌∙◌}
use Rattle.pearl_tree.specs.ShownModules.{shown_body}
use Rattle.pearl_program.specs.PlainStatements.{plain_stmts}
use Rattle.pearl_names.specs.Scopes.{as_stmts}
use Rattle.pearl_resolve.specs.Cells.{routine_cells}
use Rattle.pearl_resolve.specs.Holding.{at_in}
use Rattle.pearl_resolve.specs.Numbers.{in_body}
use Rattle.pearl_resolve.specs.Statements.{declared_renewals, joined, resolve_all}
use Rattle.pearl_resolve.proofs.routines.routine_of.Goals as goal

pub returns-clause-at : goal.returns-clause-at
returns-clause-at c = λ of holds. (c.in_ok-at.ensures of holds).goes

pub returns-clause-routine : goal.returns-clause-routine
returns-clause-routine c = λ of holds.
    let at = at_in c.args.at in
    let body = shown_body c.args.body.now in
    let h = c.in_ok-at.ensures of holds in
    let cells = c.new-listed.ensures ∙ h.adds ∙ ap (λ l. l ++ routine_cells of at body) c.new-cells.ensures.items in
    let statements = h.makes ∙ ap (λ l. joined (plain_stmts l) (joined (declared_renewals of at.next body.declarations)
    (resolve_all of at.next (in_body of.table at) (as_stmts body.statements)))) c.new-statements.ensures.items in
    λ i. record { cells = cells i; body = statements i }
