use Rattle.std.proofs.Common.{rules, arith, ◌≡◌, ◌+◌, ◌-◌, ◌<◌, ◌++◌, ℕ, List, Some, length, map, take, drop, get_or, slice_get, slice_set, sym, ap, ◌∙◌}
use Rattle.std.proofs.lemmas.Option.{slice_get-get_or}
use Rattle.pearl_value.specs.declared.cell.Cell.{Cell}
use Rattle.pearl_stack.specs.Frames.{Stack, with_cell}
use Rattle.pearl_saved.specs.Filling.{top_cells, with_cells}
use Rattle.pearl_saved.specs.Stacks.{cell_made}
use Rattle.pearl_saved.proofs.Reading.{cells_set, one_more_written}
use Rattle.pearl_saved.proofs.stacks.set_cells.Goals as goal

pub loop-c-preserved : goal.loop-c-preserved
loop-c-preserved c =
    let i = c.loop-c.c in
    let cells = c.args.cells.now in
    let old : Stack = c.args.stack.now in
    let cs : List Cell = top_cells old.frames in
    let top : ℕ = c.frames-top.result - 1 in
    let x = c.index-cells-c.result in
    let less : i < length cells = search rules in
    let is : x ≡ get_or cells i x = search rules in
    let at : slice_get cells i ≡ Some x = slice_get-get_or cells i x less ∙ ap Some (sym is) in
    let xs : List Cell = map cell_made (take i cells) ++ drop i cs in
    let last : top + 1 ≡ length old.frames = omega (arith, c.frames-top.ensures, c.requires.some) in
    c.set_cell.ensures
    ∙ ap (λ (s : Stack). record s { frames = with_cell s.frames top i c.made.result }) c.loop-c.invariant
    ∙ ap (λ fs. record old { frames = fs })
    (cells_set xs old.frames top i c.made.result last
    ∙ ap (λ ys. with_cells ys old.frames) (ap (slice_set xs i) c.made.ensures ∙ one_more_written cell_made cells cs i x c.requires.same at))
