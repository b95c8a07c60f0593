use Rattle.std.proofs.Common.{◌≡◌, ℕ, ◌+◌, ◌-◌, ◌++◌, List, Some, length, take, reverse, slice_get, sym, ap, ◌∙◌, arith, length-append}
use Rattle.pearl_value.specs.declared.cell.Cell.{Cell}
use Rattle.pearl_stack.specs.Frames.{top_operands}
use Rattle.pearl_silent.proofs.Offered.{one_more}
use Rattle.pearl_solo.proofs.values.top_values.Goals as goal

pub loop-i-preserved : goal.loop-i-preserved
loop-i-preserved c =
    let xs : List Cell = top_operands c.args.stack.now.frames in
    let left : ℕ = c.args.count - (c.loop-i.i + 1) in
    let same : c.args.count - 1 - c.loop-i.i ≡ left = omega arith in
    let at : slice_get xs left ≡ Some c.copy_of.result = ap (slice_get xs) (sym same) ∙ (c.operand.ensures ∙ ap Some (sym c.copy_of.ensures)) in (
      ap (λ made. made ++ reverse (take left xs)) c.push.ensures.items
          ∙ one_more c.loop-i.values.items (reverse (take c.args.count xs)) xs (c.args.count - c.loop-i.i) left c.copy_of.result (omega arith) at c.loop-i.invariant.0,
      omega (arith, length-append {A = Cell}, ap length c.push.ensures.items),
    )
