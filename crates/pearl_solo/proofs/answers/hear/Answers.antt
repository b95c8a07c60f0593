use Rattle.std.proofs.Common.{◌+◌, ap, ◌∙◌}
use Rattle.pearl_value.specs.declared.cell.Cell.{Cell}
use Rattle.pearl_exchange.specs.Heard.{answer_of}
use Rattle.pearl_stack.specs.Frames.{Stack, pushed, moved, without}
use Rattle.pearl_instructions.specs.Steps.{heard}
use Rattle.pearl_silent.proofs.Offered.{top_some, without_some, pushed_some}
use Rattle.pearl_solo.proofs.AnswerRows.{gone_on_with_is}
use Rattle.pearl_solo.proofs.answers.hear.Goals as goal

pub push_heard-requires-clause-some : goal.push_heard-requires-clause-some
push_heard-requires-clause-some c =
    rw c.drop_top.ensures (without_some c.args.taken c.args.stack.now.frames (top_some c.args.here.now c.args.stack.now.frames c.requires.here.top))

pub push_heard-requires-clause-room : goal.push_heard-requires-clause-room
push_heard-requires-clause-room c = rw c.drop_top.ensures c.requires.room

pub go-requires : goal.go-requires
go-requires c =
    rw (c.push_heard.ensures, c.drop_top.ensures) (pushed_some (heard (answer_of c.args.heard c.args.beside.now)) (without c.args.taken c.args.stack.now.frames)
    (without_some c.args.taken c.args.stack.now.frames (top_some c.args.here.now c.args.stack.now.frames c.requires.here.top)))

pub returns : goal.returns
returns c =
    let old : Stack = c.args.stack.now in
    let x : Cell = heard (answer_of c.args.heard c.args.beside.now) in
    let at = c.args.here.now.instruction + 1 in
    c.go.ensures ∙ (ap (λ (s : Stack). record s { frames = moved at s.frames }) c.push_heard.ensures
    ∙ (ap (λ (s : Stack). record s { frames = moved at (pushed x s.frames) }) c.drop_top.ensures
    ∙ ap (λ fs. record old { frames = fs }) (gone_on_with_is old.frames c.args.here.now c.args.taken x c.requires.here.top)))
