use Rattle.std.proofs.Common.{[], refl, ap, sym, ◌∙◌}
use Rattle.std.specs.List.{flat_map}
use Rattle.pearl_names.specs.Counts.{cut}
use Rattle.pearl_names.proofs.Offered.{all_taken}
use Rattle.pearl_scope.specs.Placed.{placed_at, placed_in}
use Rattle.pearl_scope.proofs.Offered.{placed_in-nil}
use Rattle.pearl_check.specs.Calling.{calls_of_place}
use Rattle.pearl_check.specs.Sizes.{need, greatest_need, hidden_cells, all_hidden}
use Rattle.pearl_check.proofs.Adding.{placed_taken}
use Rattle.pearl_check.proofs.Tallying.{needs_more, hidden_more, calls_more}
use Rattle.pearl_check.proofs.tally.tally_places.Goals as goal

pub loop-place-init : goal.loop-place-init
loop-place-init c = (
  ap (λ l. cut (greatest_need l)) (sym placed_in-nil),
  ap (λ l. cut (all_hidden l)) (sym placed_in-nil),
  λ t holds. c.new.ensures.items ∙ ap (flat_map (calls_of_place t c.args.procedures.now)) (sym placed_in-nil),
)

pub loop-place-preserved : goal.loop-place-preserved
loop-place-preserved c =
    let taken = placed_taken c.args.places.now c.loop-place.place-index c.place-item.result c.loop-place-test.true c.place-item.is in (
      needs_more _ _ (placed_at c.place-item.result) _ (cut (need (placed_at c.place-item.result))) _ taken c.loop-place.invariant.0 refl c.in_ok-add_place.ensures.need,
      hidden_more _ _ (placed_at c.place-item.result) _ (cut (hidden_cells (placed_at c.place-item.result).statement)) _ taken c.loop-place.invariant.1 refl
          c.in_ok-add_place.ensures.hidden,
      λ t holds. calls_more (calls_of_place t c.args.procedures.now) _ _ (placed_at c.place-item.result) [] _ _ taken (c.loop-place.invariant.2 t holds)
          (c.in_ok-add_place.ensures.calls t holds),
    )

pub returns-clause-need : goal.returns-clause-need
returns-clause-need c =
    c.loop-place.invariant.0 ∙ ap (λ l. cut (greatest_need (placed_in l))) (all_taken c.args.places.now c.loop-place.place-index c.loop-place-test.false)

pub returns-clause-hidden : goal.returns-clause-hidden
returns-clause-hidden c =
    c.loop-place.invariant.1 ∙ ap (λ l. cut (all_hidden (placed_in l))) (all_taken c.args.places.now c.loop-place.place-index c.loop-place-test.false)

pub returns-clause-calls : goal.returns-clause-calls
returns-clause-calls c = λ t holds.
    c.loop-place.invariant.2 t holds
    ∙ ap (λ l. flat_map (calls_of_place t c.args.procedures.now) (placed_in l)) (all_taken c.args.places.now c.loop-place.place-index c.loop-place-test.false)
