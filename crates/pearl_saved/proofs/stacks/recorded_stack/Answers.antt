use Rattle.std.proofs.Common.{arith, ◌≡◌, ◌++◌, [], ◌∷◌, Some, slice_get, sym, ap, ◌∙◌}
use Rattle.pearl_saved.specs.Stacks.{stack_record}
use Rattle.pearl_saved.proofs.Reading.{frame_there, recorded_at, more_taken}
use Rattle.pearl_saved.proofs.stacks.recorded_stack.Goals as goal

pub recorded_frame-requires : goal.recorded_frame-requires
recorded_frame-requires c = frame_there c.args.stack.now.frames c.loop-frame.frame (omega (arith, c.frames-count.ensures))

pub loop-frame-preserved : goal.loop-frame-preserved
loop-frame-preserved c =
    let frames = c.args.stack.now.frames in
    let i = c.loop-frame.frame in
    let x = c.in_ok-recorded_frame.field-0 in
    let at : slice_get (stack_record frames) i ≡ Some x = sym (recorded_at frames i) ∙ c.in_ok-recorded_frame.ensures in
    c.in_ok-push.ensures.items ∙ ap (λ ys. ys ++ x ∷ []) c.loop-frame.invariant ∙ sym (more_taken (stack_record frames) i x at)
