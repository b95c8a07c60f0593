use Rattle.std.proofs.Common.{◌≡◌, Ok, ap, ◌∙◌}
use Rattle.pearl_stack.specs.Frames.{Stack, pushed, without}
use Rattle.pearl_silent.specs.Steps.{next_of, made_on}
use Rattle.pearl_silent.proofs.Tops.{next_at, next_pushed, next_without, without_some}
use Rattle.pearl_silent.proofs.Made.{silent_does, made_room, made_silent}
use Rattle.pearl_silent.proofs.outcomes.leave_copy.Goals as goal

pub push_copy-requires-clause-some : goal.push_copy-requires-clause-some
push_copy-requires-clause-some c = rw c.drop_top.ensures (without_some c.args.taken c.args.stack.now.frames c.requires.next.some)

pub push_copy-requires-clause-room : goal.push_copy-requires-clause-room
push_copy-requires-clause-room c = rw c.drop_top.ensures (made_room c.args.stack.now.frames c.args.taken c.args.stack.now.room c.args.x.now c.requires.ready)

pub go_on-requires-clause-some : goal.go_on-requires-clause-some
go_on-requires-clause-some c =
    let old : Stack = c.args.stack.now in
    let e : c.push_copy.new.self ≡ record old { frames = pushed c.args.x.now (without c.args.taken old.frames) } =
    c.push_copy.ensures ∙ ap (λ (s : Stack). record s { frames = pushed c.args.x.now s.frames }) c.drop_top.ensures in
    (next_at c.push_copy.new.self _ e (next_pushed c.args.x.now (without c.args.taken old.frames) (next_without c.args.taken old.frames c.requires.next))).some

pub go_on-requires-clause-next : goal.go_on-requires-clause-next
go_on-requires-clause-next c =
    let old : Stack = c.args.stack.now in
    let e : c.push_copy.new.self ≡ record old { frames = pushed c.args.x.now (without c.args.taken old.frames) } =
    c.push_copy.ensures ∙ ap (λ (s : Stack). record s { frames = pushed c.args.x.now s.frames }) c.drop_top.ensures in
    (next_at c.push_copy.new.self _ e (next_pushed c.args.x.now (without c.args.taken old.frames) (next_without c.args.taken old.frames c.requires.next))).next

pub returns : goal.returns
returns c =
    let old : Stack = c.args.stack.now in
    let e : c.push_copy.new.self ≡ record old { frames = pushed c.args.x.now (without c.args.taken old.frames) } =
    c.push_copy.ensures ∙ ap (λ (s : Stack). record s { frames = pushed c.args.x.now s.frames }) c.drop_top.ensures in
    silent_does (made_on c.args.taken (Ok c.args.x.now) old.frames) old c.go_on.new.self _ (made_silent old.frames c.args.taken c.args.x.now c.requires.next.some)
    (c.go_on.ensures ∙ ap (λ (s : Stack). record s { frames = next_of s.frames }) e)
