use Rattle.std.proofs.Common.{◌+◌, ◌-◌, length, take, sym, ap, ◌∙◌, subst, arith}
use Rattle.pearl_value.specs.declared.cell.Cell.{Cell}
use Rattle.pearl_stack.specs.Frames.{Stack}
use Rattle.pearl_silent.specs.Steps.{top_cells}
use Rattle.pearl_silent.proofs.Offered.{keeps_first, keeps_set, keeps_is, cells_set, cells_count, within_some}
use Rattle.pearl_solo.proofs.Writing.{Writes, writes_first, writes_fit, writes_next, writes_all}
use Rattle.pearl_solo.proofs.answers.set_values.Goals as goal

pub loop-done-init : goal.loop-done-init
loop-done-init c = record {
  keeps = keeps_first c.args.stack.now;
  writes = writes_first (top_cells c.args.stack.now.frames) c.args.first c.args.values.now c.requires.there;
}

pub element-c-requires : goal.element-c-requires
element-c-requires c =
    let fit = writes_fit _ c.args.first c.loop-done.done c.args.values.now _ (omega arith) c.loop-done.invariant.writes in
    let count = cells_count c.args.here.now c.args.stack.now.frames c.requires.here in
    omega (arith, fit, count)

pub copy_to_cell-requires : goal.copy_to_cell-requires
copy_to_cell-requires c =
    let fit = writes_fit _ c.args.first c.loop-done.done c.args.values.now _ (omega arith) c.loop-done.invariant.writes in
    within_some (top_cells c.loop-done.stack.frames) c.element-c.result (omega (arith, fit, c.element-c.ensures, c.loop-done.invariant.writes.long))

pub loop-done-preserved : goal.loop-done-preserved
loop-done-preserved c =
    let old : Stack = c.args.stack.now in
    let now : Stack = c.loop-done.stack in
    let x : Cell = c.value_at.result.now in
    let next = writes_next (top_cells old.frames) c.args.first c.loop-done.done c.element-c.result c.args.values.now (top_cells now.frames) x (omega arith)
    c.loop-done.invariant.writes c.value_at.ensures (omega (arith, c.element-c.ensures)) in
    record {
      keeps = keeps_set c.element-c.result x old now c.copy_to_cell.new.stack c.loop-done.invariant.keeps c.copy_to_cell.ensures;
      writes = subst (Writes (top_cells old.frames) c.args.first c.args.values.now (take (length c.args.values.now - (c.loop-done.done + 1)) c.args.values.now))
          (sym (cells_set c.element-c.result x now.frames) ∙ ap (λ (s : Stack). top_cells s.frames) (sym c.copy_to_cell.ensures)) next;
    }

pub returns : goal.returns
returns c =
    let old : Stack = c.args.stack.now in
    keeps_is old c.loop-done.stack _ c.loop-done.invariant.keeps
    (writes_all (top_cells old.frames) c.args.first c.loop-done.done c.args.values.now (top_cells c.loop-done.stack.frames) (omega arith) c.loop-done.invariant.writes)
