use Rattle.std.proofs.Common.{◌≡◌, ◌+◌, sym, ap, ◌∙◌, subst, arith}
use Rattle.pearl_value.specs.Blanks.{blank_of}
use Rattle.pearl_stack.specs.Frames.{Stack}
use Rattle.pearl_silent.specs.Steps.{top_cells, with_top_cell}
use Rattle.pearl_silent.proofs.Tops.{within_some}
use Rattle.pearl_silent.proofs.Filling.{Fills, keeps_first, keeps_set, keeps_is, cells_set, fills_first, fills_more, fills_all}
use Rattle.pearl_silent.proofs.cells.fill_cells.Goals as goal

pub loop-i-init : goal.loop-i-init
loop-i-init c = record { keeps = keeps_first c.args.stack.now; fills = fills_first (top_cells c.args.stack.now.frames) c.args.first c.args.count c.args.kind }

pub set_own_blank-requires-clause-cell : goal.set_own_blank-requires-clause-cell
set_own_blank-requires-clause-cell c =
    within_some (top_cells c.loop-i.stack.frames) (c.args.first + c.loop-i.i) (omega (arith, c.requires.there, c.loop-i.invariant.fills.long))

pub loop-i-preserved : goal.loop-i-preserved
loop-i-preserved c =
    let old : Stack = c.args.stack.now in
    let now : Stack = c.loop-i.stack in
    let more = fills_more (top_cells old.frames) c.args.first c.args.count c.loop-i.i c.args.kind (top_cells now.frames) c.loop-i.invariant.fills (omega arith) c.requires.there in
    let is : c.set_own_blank.new.stack ≡ record now { frames = with_top_cell (c.args.first + c.loop-i.i) (blank_of c.args.kind) now.frames } =
    c.set_own_blank.ensures in
    record {
      keeps = keeps_set (c.args.first + c.loop-i.i) (blank_of c.args.kind) old now c.set_own_blank.new.stack c.loop-i.invariant.keeps is;
      fills = subst (Fills (top_cells old.frames) c.args.first c.args.count (c.loop-i.i + 1) c.args.kind)
          (sym (cells_set (c.args.first + c.loop-i.i) (blank_of c.args.kind) now.frames) ∙ ap (λ (s : Stack). top_cells s.frames) (sym is)) more;
    }

pub returns : goal.returns
returns c =
    let old : Stack = c.args.stack.now in
    let i = c.loop-i.i in
    let all : i ≡ c.args.count = omega arith in
    keeps_is old c.loop-i.stack _ c.loop-i.invariant.keeps
    (fills_all (top_cells old.frames) c.args.first c.args.count c.args.kind (top_cells c.loop-i.stack.frames)
    (subst (λ i. Fills (top_cells old.frames) c.args.first c.args.count i c.args.kind (top_cells c.loop-i.stack.frames)) all c.loop-i.invariant.fills))
