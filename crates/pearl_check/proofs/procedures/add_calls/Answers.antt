use Rattle.std.proofs.Common.{◌≡◌, ◌++◌, length, ap, sym, ◌∙◌}
use Rattle.pearl_check.specs.Asked.{shown_asked}
use Rattle.pearl_check.specs.Calls.{asked_pieces}
use Rattle.pearl_check.specs.PieceLists.{pieces_in}
use Rattle.pearl_check.proofs.PieceLists.{pieces_in-nil, pieces_in-length}
use Rattle.pearl_check.proofs.procedures.add_calls.Goals as goal

pub returns-clause-pieces : goal.returns-clause-pieces
returns-clause-pieces c =
    let made : pieces_in c.as_slice-made.result.now ≡ asked_pieces (shown_asked c.args.asked.now) =
    ap pieces_in c.as_slice-made.ensures.value ∙ c.in_ok-add_pieces.ensures
    ∙ ap (λ t. t ++ asked_pieces (shown_asked c.args.asked.now)) (ap pieces_in c.new-pieces.ensures.items ∙ pieces_in-nil) in
    sym (pieces_in-length c.as_slice-made.result.now) ∙ ap length made

pub returns-clause-calls : goal.returns-clause-calls
returns-clause-calls c = λ t holds.
    c.in_ok-add_part_calls.ensures t holds
    (ap pieces_in c.as_slice-made.ensures.value ∙ c.in_ok-add_pieces.ensures
    ∙ ap (λ t. t ++ asked_pieces (shown_asked c.args.asked.now)) (ap pieces_in c.new-pieces.ensures.items ∙ pieces_in-nil))
