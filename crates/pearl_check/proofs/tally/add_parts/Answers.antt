use Rattle.std.proofs.Common.{◌++◌, length, ap, sym, ◌∙◌, append-nil}
use Rattle.std.specs.List.{flat_map}
use Rattle.pearl_names.specs.Counts.{cut}
use Rattle.pearl_check.specs.Asked.{shown_asked}
use Rattle.pearl_check.specs.Calling.{calls_of_part}
use Rattle.pearl_check.specs.Calls.{asked_pieces}
use Rattle.pearl_check.proofs.AskedLists.{asked_in-nil, asked_taken}
use Rattle.pearl_check.proofs.Tallying.{pieces_more, calls_more}
use Rattle.pearl_check.proofs.tally.add_parts.Goals as goal

pub loop-part-init : goal.loop-part-init
loop-part-init c = (
  ap (λ asked. cut (length (flat_map asked_pieces asked))) (sym asked_in-nil),
  λ t holds. sym (append-nil c.args.calls.now.items) ∙ ap (λ asked. c.args.calls.now.items ++ flat_map (calls_of_part t c.args.procedures.now) asked) (sym asked_in-nil),
)

pub loop-part-preserved : goal.loop-part-preserved
loop-part-preserved c =
    let taken = asked_taken c.args.asked.now c.loop-part.part-index c.part-item.result c.loop-part-test.true c.part-item.is in (
      pieces_more _ _ (shown_asked c.part-item.result) _ _ _ _ taken c.loop-part.invariant.0 c.in_ok-more.ensures.pieces c.cut.ensures c.cut_sum-pieces.ensures,
      λ t holds. calls_more (calls_of_part t c.args.procedures.now) _ _ (shown_asked c.part-item.result) _ _ _ taken (c.loop-part.invariant.1 t holds)
          (c.in_ok-more.ensures.calls t holds),
    )
