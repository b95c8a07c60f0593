use Rattle.std.proofs.Common.{◌≡◌, ◌+◌, length, sym, ap, ◌∙◌, subst, arith}
use Rattle.pearl_value.specs.declared.kind.CellKind.{CellKind}
use Rattle.pearl_stack.specs.Frames.{Stack}
use Rattle.pearl_instructions.specs.Flow as flow
use Rattle.pearl_instructions.specs.Lawful.{IsCellKind}
use Rattle.pearl_silent.specs.Steps.{top_cells, with_top_cell}
use Rattle.pearl_silent.proofs.Offered.{within_some, Freshens, keeps_first, keeps_set, keeps_is, cells_set}
use Rattle.pearl_silent.proofs.Offered.{freshens_first, freshens_more, freshens_all, all_given}
use Rattle.pearl_solo.proofs.frames.set_fresh.Goals as goal

pub loop-i-init : goal.loop-i-init
loop-i-init c = record { keeps = keeps_first c.args.stack.now; fresh = freshens_first (top_cells c.args.stack.now.frames) c.args.kinds.now c.args.from }

pub set_fresh_cell-requires-clause-cell : goal.set_fresh_cell-requires-clause-cell
set_fresh_cell-requires-clause-cell c =
    within_some (top_cells c.loop-i.stack.frames) c.loop-i.i (omega (arith, c.requires.cells, c.loop-i.invariant.fresh.long))

pub set_fresh_cell-requires-clause-kind : goal.set_fresh_cell-requires-clause-kind
set_fresh_cell-requires-clause-kind c = all_given IsCellKind c.args.kinds.now c.loop-i.i c.kind_at-kind.result c.requires.kinds c.kind_at-kind.ensures

pub loop-i-preserved : goal.loop-i-preserved
loop-i-preserved c =
    let old : Stack = c.args.stack.now in
    let now : Stack = c.loop-i.stack in
    let k : CellKind = c.kind_at-kind.result in
    let more = freshens_more (top_cells old.frames) c.args.kinds.now c.args.from c.loop-i.i (top_cells now.frames) k c.loop-i.invariant.fresh c.kind_at-kind.ensures (omega (arith, c.requires.cells)) in
    let is : c.set_fresh_cell.new.stack ≡ record now { frames = with_top_cell c.loop-i.i (flow.fresh k) now.frames } = c.set_fresh_cell.ensures in
    record {
      keeps = keeps_set c.loop-i.i (flow.fresh k) old now c.set_fresh_cell.new.stack c.loop-i.invariant.keeps is;
      fresh = subst (Freshens (top_cells old.frames) c.args.kinds.now c.args.from (c.loop-i.i + 1))
          (sym (cells_set c.loop-i.i (flow.fresh k) now.frames) ∙ ap (λ (s : Stack). top_cells s.frames) (sym is)) more;
    }

pub returns : goal.returns
returns c =
    let old : Stack = c.args.stack.now in
    let all : c.loop-i.i ≡ length c.args.kinds.now = omega (arith, c.requires.from) in
    keeps_is old c.loop-i.stack _ c.loop-i.invariant.keeps
    (freshens_all (top_cells old.frames) c.args.kinds.now c.args.from (top_cells c.loop-i.stack.frames) c.requires.cells
    (subst (λ i. Freshens (top_cells old.frames) c.args.kinds.now c.args.from i (top_cells c.loop-i.stack.frames)) all c.loop-i.invariant.fresh))
