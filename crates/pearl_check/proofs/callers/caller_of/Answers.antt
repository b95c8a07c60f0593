use Rattle.std.proofs.Common.{◌≡◌, ◌+◌, ◌++◌, ap, sym, ◌∙◌, arith}
use Rattle.std.specs.List.{flat_map}
use Rattle.pearl_names.specs.Counts.{cut}
use Rattle.pearl_names.specs.Listed.{stmts_shown}
use Rattle.pearl_names.specs.Scopes.{scopes_in_all}
use Rattle.pearl_scope.specs.Placed.{placed_in, placed_body}
use Rattle.pearl_scope.proofs.Offered.{placed_in-nil}
use Rattle.pearl_check.specs.Calling.{calls_of_place}
use Rattle.pearl_check.specs.Sizes.{greatest_need, all_hidden}
use Rattle.pearl_check.proofs.Tallying.{calls_listed, own_joined}
use Rattle.pearl_check.proofs.callers.caller_of.Goals as goal

pub returns-clause-caller : goal.returns-clause-caller
returns-clause-caller c = λ t name sort holds.
    let body = placed_body c.args.scope (stmts_shown c.args.body.now.statements.items.items) in
    let placed : placed_in c.as_slice.result.now ≡ body =
    ap placed_in c.as_slice.ensures.value ∙ c.in_ok-next.ensures.placed ∙ ap (λ t. t ++ body) (ap placed_in c.new-places.ensures.items ∙ placed_in-nil) in
    let next : c.in_ok-next.next ≡ c.args.scope + (1 + scopes_in_all (stmts_shown c.args.body.now.statements.items.items)) =
    let e = c.in_ok-next.ensures.next in omega (arith, e) in
    let cells = c.cells_in_scopes.ensures t (1 + scopes_in_all (stmts_shown c.args.body.now.statements.items.items)) holds next in
    let need = c.in_ok-tally.ensures.need ∙ ap (λ l. cut (greatest_need l)) placed in
    let hidden = c.in_ok-tally.ensures.hidden ∙ ap (λ l. cut (all_hidden l)) placed in
    let calls = c.in_ok-tally.ensures.calls t holds ∙ ap (flat_map (calls_of_place t c.args.procedures.now)) placed
    ∙ sym (calls_listed t c.args.procedures.now body) in
    let own = own_joined _ _ _ _ _ _ _ _ cells hidden c.cut_sum-cells.ensures need c.cut_sum.ensures in
    c.new.ensures ∙ (λ i. record { own = own i; calls = calls i })
