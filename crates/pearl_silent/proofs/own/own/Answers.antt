use Rattle.std.proofs.Common.{◌≡◌, ◌-◌, suc, length, ◌∙◌, arith, sym, subst}
use Rattle.std.specs.Prelude.{IsSome}
use Rattle.pearl_stack.specs.Frames.{Stack}
use Rattle.pearl_silent.proofs.Tops.{own_small, own_cell_at, cells_more}
use Rattle.pearl_silent.proofs.own.own.Goals as goal

pub overflow_sub-frames : goal.overflow_sub-frames
overflow_sub-frames c = let more = cells_more c.args.stack.now.frames c.args.c c.requires in omega (arith, more, c.frames.ensures)

pub overflow_cast-c : goal.overflow_cast-c
overflow_cast-c c = let less = own_small c.args.stack.now.frames c.args.c c.requires in omega (arith, less, c.size-size.ensures)

pub cell-requires : goal.cell-requires
cell-requires c =
    let old : Stack = c.args.stack.now in
    let more = cells_more old.frames c.args.c c.requires in
    let top : suc (c.frames.result - 1) ≡ length old.frames = omega (arith, more, c.frames.ensures) in
    subst IsSome (sym (own_cell_at old.frames (c.frames.result - 1) c.args.c top)) c.requires

pub returns : goal.returns
returns c =
    let old : Stack = c.args.stack.now in
    let more = cells_more old.frames c.args.c c.requires in
    let top : suc (c.frames.result - 1) ≡ length old.frames = omega (arith, more, c.frames.ensures) in
    sym (own_cell_at old.frames (c.frames.result - 1) c.args.c top) ∙ c.cell.ensures
