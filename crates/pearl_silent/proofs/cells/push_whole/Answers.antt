use Rattle.std.proofs.Common.{ap, ◌∙◌}
use Rattle.pearl_stack.specs.Frames.{Stack, pushed}
use Rattle.pearl_silent.proofs.cells.push_whole.Goals as goal

pub returns : goal.returns
returns c =
    let old : Stack = c.args.stack.now in
    c.push_copy.ensures ∙ ap (λ x. record old { frames = pushed x old.frames }) c.cell.ensures
