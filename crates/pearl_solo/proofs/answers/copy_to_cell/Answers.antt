use Rattle.std.proofs.Common.{◌≡◌, suc, ◌-◌, length, ap, ◌∙◌, arith}
use Rattle.pearl_silent.proofs.Offered.{own_cell_at, own_cell_set, cells_more}
use Rattle.pearl_solo.proofs.answers.copy_to_cell.Goals as goal

pub overflow_sub-frames : goal.overflow_sub-frames
overflow_sub-frames c = let more = cells_more c.args.stack.now.frames c.args.c c.requires in omega (arith, more, c.frames.ensures)

pub set_cell_copy-requires : goal.set_cell_copy-requires
set_cell_copy-requires c =
    let frames = c.args.stack.now.frames in
    let more = cells_more frames c.args.c c.requires in
    let one : suc (c.frames.result - 1) ≡ length frames = omega (arith, more, c.frames.ensures) in
    rw (own_cell_at frames (c.frames.result - 1) c.args.c one) c.requires

pub returns : goal.returns
returns c =
    let frames = c.args.stack.now.frames in
    let more = cells_more frames c.args.c c.requires in
    let one : suc (c.frames.result - 1) ≡ length frames = omega (arith, more, c.frames.ensures) in
    c.set_cell_copy.ensures ∙ ap (λ fs. record c.args.stack.now { frames = fs }) (own_cell_set frames (c.frames.result - 1) c.args.c c.args.x.now one)
