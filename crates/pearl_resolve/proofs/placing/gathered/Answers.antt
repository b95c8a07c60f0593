use Rattle.std.proofs.Common.{◌≡◌, ◌++◌, [], ◌∷◌, length, sym, ap, ◌∙◌, append-nil, arith}
use Rattle.std.specs.Vec.Iter.{into_iter_items}
use Rattle.pearl_resolve.specs.Placing.{collected}
use Rattle.pearl_resolve.proofs.PlacingSteps.{collected_push}
use Rattle.pearl_resolve.proofs.Renewing.{nothing_left}
use Rattle.pearl_resolve.proofs.placing.gathered.Goals as goal

pub loop-place-init : goal.loop-place-init
loop-place-init c =
    let given = c.into_iter-place-iterator.ensures.into_iter_gives in
    let items = given.0 in
    let count = given.1 in
    let short = ap length items in
    let fits = c.args.places.ok.0 in
    (ap (λ m. m ++ collected (into_iter_items c.into_iter-place-iterator.result)) c.new-made.ensures.items ∙ ap collected items, omega arith)

pub loop-place-preserved : goal.loop-place-preserved
loop-place-preserved c =
    let at = c.loop-place in
    let place = c.in-Some.place in
    let steps : into_iter_items at.place-iterator ≡ place ∷ into_iter_items c.next.new.self = c.in-Some.ensures.steps.0 in
    let was = at.invariant.1 in
    let gone = c.in-Some.ensures.steps.1 in
    let short = ap length steps in (
      ap (λ m. m ++ collected (into_iter_items c.next.new.self)) c.in_ok-add_place.ensures
          ∙ collected_push at.made.items place (into_iter_items c.next.new.self)
          ∙ ap (λ l. at.made.items ++ collected l) (sym steps) ∙ at.invariant.0,
      omega arith,
    )

pub returns : goal.returns
returns c =
    let at = c.loop-place in
    let empty : into_iter_items at.place-iterator ≡ [] = nothing_left _ (sym at.invariant.1 ∙ c.in-None.ensures.steps.0) in
    sym (append-nil _) ∙ ap (λ l. at.made.items ++ collected l) (sym empty) ∙ at.invariant.0
