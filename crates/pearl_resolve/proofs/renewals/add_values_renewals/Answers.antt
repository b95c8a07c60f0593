use Rattle.std.proofs.Common.{◌≡◌, [], ◌∷◌, length, map, sym, ap, ◌∙◌, arith}
use Rattle.std.specs.Vec.Iter.{into_iter_items}
use Rattle.pearl_program.specs.PlainStatements.{plain_stmts, plain_values}
use Rattle.pearl_resolve.specs.Holding.{values_renewals}
use Rattle.pearl_resolve.specs.Statements.{joined}
use Rattle.pearl_resolve.proofs.Renewing.{values_more, values_all, nothing_left}
use Rattle.pearl_resolve.proofs.renewals.add_values_renewals.Goals as goal

pub loop-own-init : goal.loop-own-init
loop-own-init c =
    let given = c.into_iter-own-iterator.ensures.into_iter_gives in
    let items = given.0 in
    let count = given.1 in
    let short = ap length items in
    let fits = c.args.values.ok.0 in
    (ap (λ l. joined (plain_stmts c.args.into.now.items) (values_renewals c.args.cell (map plain_values l))) items, omega arith)

pub loop-own-preserved : goal.loop-own-preserved
loop-own-preserved c =
    let at = c.loop-own in
    let own = c.in-Some.own in
    let steps : into_iter_items at.own-iterator ≡ own ∷ into_iter_items c.next.new.self = c.in-Some.ensures.steps.0 in
    let was = at.invariant.1 in
    let gone = c.in-Some.ensures.steps.1 in
    let short = ap length steps in
    (values_more _ _ own _ _ _ _ c.in_ok-made.made _ steps c.in_ok-made.ensures c.in_ok-next.ensures c.in_ok-push.ensures.items at.invariant.0, omega arith)

pub returns : goal.returns
returns c =
    let at = c.loop-own in
    let empty : into_iter_items at.own-iterator ≡ [] = nothing_left _ (sym at.invariant.1 ∙ c.in-None.ensures.steps.0) in
    values_all _ _ _ _ empty at.invariant.0
