use Rattle.std.proofs.Common.{ap, ◌∙◌}
use Rattle.pearl_stack.specs.Frames.{Stack}
use Rattle.pearl_silent.specs.Steps.{next_of, left_on}
use Rattle.pearl_silent.proofs.Tops.{next_at, next_without}
use Rattle.pearl_silent.proofs.Made.{silent_does, left_silent}
use Rattle.pearl_silent.proofs.outcomes.leave_none.Goals as goal

pub go_on-requires-clause-some : goal.go_on-requires-clause-some
go_on-requires-clause-some c = (next_at c.drop_top.new.self _ c.drop_top.ensures (next_without c.args.taken c.args.stack.now.frames c.requires.next)).some

pub go_on-requires-clause-next : goal.go_on-requires-clause-next
go_on-requires-clause-next c = (next_at c.drop_top.new.self _ c.drop_top.ensures (next_without c.args.taken c.args.stack.now.frames c.requires.next)).next

pub returns : goal.returns
returns c =
    let old : Stack = c.args.stack.now in
    silent_does (left_on c.args.taken old.frames) old c.go_on.new.self _ (left_silent old.frames c.args.taken c.requires.next.some)
    (c.go_on.ensures ∙ ap (λ (s : Stack). record s { frames = next_of s.frames }) c.drop_top.ensures)
