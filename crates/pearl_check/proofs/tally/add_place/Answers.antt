use Rattle.std.proofs.Common.{◌≡◌, ◌+◌, ◌++◌, length, max, ap, ◌∙◌, arith}
use Rattle.std.specs.List.{flat_map}
use Rattle.pearl_scope.specs.Placed.{placed_at}
use Rattle.pearl_names.specs.Counts.{cut}
use Rattle.pearl_check.specs.Asked.{asked_in, asked_at}
use Rattle.pearl_check.specs.Calling.{calls_of_part}
use Rattle.pearl_check.specs.Calls.{asked_pieces}
use Rattle.pearl_check.proofs.AskedLists.{asked_in-nil}
use Rattle.pearl_check.proofs.tally.add_place.Goals as goal

pub returns-clause-need : goal.returns-clause-need
returns-clause-need c =
    let asked : asked_in c.as_slice.result.now ≡ asked_at (placed_at c.args.place.now) =
    ap asked_in c.as_slice.ensures.value ∙ c.in_ok-add_asked.ensures ∙ ap (λ t. t ++ asked_at (placed_at c.args.place.now)) (ap asked_in c.new-asked.ensures.items ∙ asked_in-nil) in
    let pieces = c.in_ok-pieces.ensures.pieces ∙ ap (λ l. cut (length (flat_map asked_pieces l))) asked in
    let e : cut (2 + cut (length (flat_map asked_pieces (asked_at (placed_at c.args.place.now))))) ≡ cut (2 + length (flat_map asked_pieces (asked_at (placed_at c.args.place.now)))) =
    omega arith in
    c.max-tally.ensures ∙ ap (max c.args.tally.now.need) (c.cut_sum.ensures ∙ ap (λ n. cut (2 + n)) pieces ∙ e)

pub returns-clause-calls : goal.returns-clause-calls
returns-clause-calls c = λ t holds.
    let asked : asked_in c.as_slice.result.now ≡ asked_at (placed_at c.args.place.now) =
    ap asked_in c.as_slice.ensures.value ∙ c.in_ok-add_asked.ensures ∙ ap (λ t. t ++ asked_at (placed_at c.args.place.now)) (ap asked_in c.new-asked.ensures.items ∙ asked_in-nil) in
    c.in_ok-pieces.ensures.calls t holds ∙ ap (λ l. c.args.tally.now.calls.items ++ flat_map (calls_of_part t c.args.procedures.now) l) asked
