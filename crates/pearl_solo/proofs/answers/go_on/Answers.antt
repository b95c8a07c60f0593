use Rattle.std.proofs.Common.{◌+◌, ap, ◌∙◌}
use Rattle.pearl_stack.specs.Frames.{Stack, moved}
use Rattle.pearl_silent.proofs.Offered.{top_some, without_some}
use Rattle.pearl_solo.proofs.AnswerRows.{gone_on_is}
use Rattle.pearl_solo.proofs.answers.go_on.Goals as goal

pub go-requires : goal.go-requires
go-requires c = rw c.drop_top.ensures (without_some c.args.taken c.args.stack.now.frames (top_some c.args.here.now c.args.stack.now.frames c.requires.here.top))

pub returns : goal.returns
returns c =
    let old : Stack = c.args.stack.now in
    c.go.ensures ∙ (ap (λ (s : Stack). record s { frames = moved (c.args.here.now.instruction + 1) s.frames }) c.drop_top.ensures
    ∙ ap (λ fs. record old { frames = fs }) (gone_on_is old.frames c.args.here.now c.args.taken c.requires.here.top))
