use Rattle.std.proofs.Common.{◌≡◌, ◌++◌, [], ◌∷◌, Some, slice_get, sym, ap₂, ◌∙◌}
use Rattle.pearl_stack.specs.Frames.{frame_at}
use Rattle.pearl_saved.specs.Filling.{cells_in}
use Rattle.pearl_saved.specs.Stacks.{cell_record}
use Rattle.pearl_saved.proofs.Reading.{cells_at, more_mapped}
use Rattle.pearl_saved.proofs.stacks.recorded_cells.Goals as goal

pub loop-c-preserved : goal.loop-c-preserved
loop-c-preserved c =
    let found = frame_at c.args.stack.now.frames c.args.frame in
    let xs = cells_in found in
    let x = c.cell.result.now in
    let at : slice_get xs c.loop-c.c ≡ Some x = sym (cells_at found c.loop-c.c) ∙ c.cell.ensures in
    c.in_ok-push.ensures.items ∙ ap₂ (λ ys y. ys ++ y ∷ []) c.loop-c.invariant c.recorded.ensures ∙ sym (more_mapped cell_record xs c.loop-c.c x at)
