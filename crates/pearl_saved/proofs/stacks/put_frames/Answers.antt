use Rattle.std.proofs.Common.{rules, arith, ◌≡◌, ◌<◌, Some, length, get_or, slice_get, sym, ap, ◌∙◌}
use Rattle.std.proofs.lemmas.Option.{slice_get-get_or}
use Rattle.pearl_stack.specs.Frames.{Stack, used}
use Rattle.pearl_saved.proofs.Small.{room_for}
use Rattle.pearl_saved.proofs.stacks.put_frames.Goals as goal

pub put_frame-requires-clause-room : goal.put_frame-requires-clause-room
put_frame-requires-clause-room c =
    let i = c.loop-frame.frame-index in
    let frames = c.args.frames.now in
    let x = c.frame-item.result in
    let less : i < length frames = search rules in
    let is : x ≡ get_or frames i x = search rules in
    let at : slice_get frames i ≡ Some x = slice_get-get_or frames i x less ∙ ap Some (sym is) in
    let few = room_for frames i x at in
    omega (arith, few, ap (λ (s : Stack). used s.frames) c.loop-frame.invariant, ap (λ (s : Stack). s.room) c.loop-frame.invariant, c.requires.room)
