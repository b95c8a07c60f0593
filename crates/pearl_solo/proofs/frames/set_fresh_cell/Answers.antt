use Rattle.std.proofs.Common.{◌≡◌, suc, ◌-◌, length, sym, ap, ◌∙◌, arith}
use Rattle.pearl_stack.specs.Frames.{with_cell}
use Rattle.pearl_instructions.specs.Flow as flow
use Rattle.pearl_silent.proofs.Offered.{own_cell_at, own_cell_set, cells_more}
use Rattle.pearl_solo.proofs.frames.set_fresh_cell.Goals as goal

pub overflow_sub-frames : goal.overflow_sub-frames
overflow_sub-frames c = let more = cells_more c.args.stack.now.frames c.args.c c.requires.cell in omega (arith, more, c.frames.ensures)

pub set_cell_blank-requires-clause-cell : goal.set_cell_blank-requires-clause-cell
set_cell_blank-requires-clause-cell c =
    let frames = c.args.stack.now.frames in
    let more = cells_more frames c.args.c c.requires.cell in
    let one : suc (c.frames.result - 1) ≡ length frames = omega (arith, more, c.frames.ensures) in
    rw (own_cell_at frames (c.frames.result - 1) c.args.c one) c.requires.cell

pub returns : goal.returns
returns c =
    let frames = c.args.stack.now.frames in
    let more = cells_more frames c.args.c c.requires.cell in
    let one : suc (c.frames.result - 1) ≡ length frames = omega (arith, more, c.frames.ensures) in
    c.set_cell_blank.ensures ∙ ap (λ fs. record c.args.stack.now { frames = fs }) (ap (with_cell frames (c.frames.result - 1) c.args.c) (sym c.unset_kind-of.ensures.fresh)
    ∙ own_cell_set frames (c.frames.result - 1) c.args.c (flow.fresh c.args.kind) one)
