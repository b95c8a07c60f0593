use Rattle.std.proofs.Common.{◌≡◌, ◌-◌, suc, length, ap, ◌∙◌, arith, sym, subst}
use Rattle.std.specs.Prelude.{IsSome}
use Rattle.pearl_value.specs.Blanks.{blank_of}
use Rattle.pearl_stack.specs.Frames.{Stack}
use Rattle.pearl_silent.proofs.Tops.{own_small, own_cell_at, own_cell_set, cells_more}
use Rattle.pearl_silent.proofs.own.set_own_blank.Goals as goal

pub overflow_sub-top : goal.overflow_sub-top
overflow_sub-top c = let more = cells_more c.args.stack.now.frames c.args.c c.requires.cell in omega (arith, more, c.frames-top.ensures)

pub overflow_cast-c : goal.overflow_cast-c
overflow_cast-c c = let less = own_small c.args.stack.now.frames c.args.c c.requires.cell in omega (arith, less, c.size-size.ensures)

pub set_cell_blank-requires-clause-cell : goal.set_cell_blank-requires-clause-cell
set_cell_blank-requires-clause-cell c =
    let old : Stack = c.args.stack.now in
    let more = cells_more old.frames c.args.c c.requires.cell in
    let top : suc (c.frames-top.result - 1) ≡ length old.frames = omega (arith, more, c.frames-top.ensures) in
    subst IsSome (sym (own_cell_at old.frames (c.frames-top.result - 1) c.args.c top)) c.requires.cell

pub returns : goal.returns
returns c =
    let old : Stack = c.args.stack.now in
    let more = cells_more old.frames c.args.c c.requires.cell in
    let top : suc (c.frames-top.result - 1) ≡ length old.frames = omega (arith, more, c.frames-top.ensures) in
    c.set_cell_blank.ensures ∙ ap (λ fs. record old { frames = fs }) (own_cell_set old.frames (c.frames-top.result - 1) c.args.c (blank_of c.args.kind) top)
