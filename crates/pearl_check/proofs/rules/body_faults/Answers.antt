use Rattle.std.proofs.Common.{◌≡◌, ◌++◌, ap, ◌∙◌}
use Rattle.std.specs.List.{flat_map}
use Rattle.pearl_names.specs.Listed.{stmts_shown}
use Rattle.pearl_scope.specs.Placed.{placed_in, placed_body}
use Rattle.pearl_scope.proofs.Offered.{placed_in-nil}
use Rattle.pearl_check.specs.Routines.{shown_sort}
use Rattle.pearl_check.specs.Rules.{statement_faults}
use Rattle.pearl_check.proofs.rules.body_faults.Goals as goal

pub returns-clause-faults : goal.returns-clause-faults
returns-clause-faults c = λ table holds.
    let body = placed_body c.args.scope (stmts_shown c.args.body.now.statements.items.items) in
    let placed : placed_in c.as_slice.result.now ≡ body =
    ap placed_in c.as_slice.ensures.value ∙ c.in_ok-next.ensures.placed ∙ ap (λ t. t ++ body) (ap placed_in c.new-places.ensures.items ∙ placed_in-nil) in
    c.in_ok-all_statement_faults.ensures table holds ∙ ap (λ t. c.args.faults.now.items ++ flat_map (statement_faults table (shown_sort c.args.sort)) t) placed
