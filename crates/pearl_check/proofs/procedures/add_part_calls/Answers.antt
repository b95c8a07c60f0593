use Rattle.std.proofs.Common.{◌≡◌, ◌++◌, ap, sym, ◌∙◌, append_assoc}
use Rattle.std.specs.List.{flat_map}
use Rattle.pearl_check_expr.specs.Subjects.{shown_subject}
use Rattle.pearl_check.specs.Asked.{shown_asked}
use Rattle.pearl_check.specs.Calling.{calls_seen, called_name, calls_of_part}
use Rattle.pearl_check.specs.Calls.{referred, subject_pieces, asked_pieces}
use Rattle.pearl_check.specs.PieceLists.{pieces_in}
use Rattle.pearl_check.specs.Views.{view_of}
use Rattle.pearl_check.proofs.Calling.{part_calls}
use Rattle.pearl_check.proofs.procedures.add_part_calls.Goals as goal

pub returns-in_ok-add_piece_calls-in-Subject : goal.returns-in_ok-add_piece_calls-in-Subject
returns-in_ok-add_piece_calls-in-Subject c = λ t holds made.
    let procedures = c.args.procedures.now in
    let scope = c.in-Subject.scope in
    let subject = shown_subject c.in-Subject.subject in
    let old = c.args.calls.now.items in
    let whole : calls_of_part t procedures (shown_asked c.args.asked.now) ≡
    calls_seen t procedures (view_of scope subject) (called_name subject) ++ calls_seen t procedures (view_of scope subject) (flat_map referred (subject_pieces subject)) =
    ap (λ asked. calls_of_part t procedures (shown_asked asked)) c.in-Subject.is ∙ part_calls t procedures c.in-Subject.role scope subject in
    let pieces : pieces_in c.args.pieces.now ≡ subject_pieces subject =
    made ∙ ap (λ asked. asked_pieces (shown_asked asked)) c.in-Subject.is in
    c.in_ok-add_piece_calls-in-Subject.ensures t holds
    ∙ (λ i. c.in_ok-add_called-in-Subject.ensures t holds i ++ calls_seen t procedures (c.view_of-view.ensures i) (flat_map referred (pieces i)))
    ∙ (λ i. (old ++ calls_seen t procedures (c.view_of-view.ensures i) (called_name subject)) ++ calls_seen t procedures (view_of scope subject) (flat_map referred (subject_pieces subject)))
    ∙ append_assoc old _ _
    ∙ ap (λ l. old ++ l) (sym whole)
