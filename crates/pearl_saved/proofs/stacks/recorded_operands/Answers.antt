use Rattle.std.proofs.Common.{◌≡◌, ◌++◌, [], ◌∷◌, Some, slice_get, sym, ap₂, ◌∙◌}
use Rattle.pearl_stack.specs.Frames.{frame_at}
use Rattle.pearl_saved.specs.Filling.{operands_in}
use Rattle.pearl_saved.specs.Stacks.{cell_record}
use Rattle.pearl_saved.proofs.Reading.{operands_at, more_mapped}
use Rattle.pearl_saved.proofs.stacks.recorded_operands.Goals as goal

pub loop-at-preserved : goal.loop-at-preserved
loop-at-preserved c =
    let found = frame_at c.args.stack.now.frames c.args.frame in
    let xs = operands_in found in
    let x = c.operand.result.now in
    let at : slice_get xs c.loop-at.at ≡ Some x = sym (operands_at found c.loop-at.at) ∙ c.operand.ensures in
    c.in_ok-push.ensures.items ∙ ap₂ (λ ys y. ys ++ y ∷ []) c.loop-at.invariant c.recorded.ensures ∙ sym (more_mapped cell_record xs c.loop-at.at x at)
