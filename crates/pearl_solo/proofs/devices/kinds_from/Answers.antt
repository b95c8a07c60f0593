use Rattle.std.proofs.Common.{◌≡◌, ℕ, suc, ◌+◌, ◌++◌, [], ◌∷◌, List, Some, length, take, drop, slice_get, sym, ap, ◌∙◌, arith, length-append}
use Rattle.pearl_value.specs.declared.cell.Cell.{Cell}
use Rattle.pearl_value.specs.declared.kind.Kind.{Kind}
use Rattle.pearl_instructions.specs.Offers.{value_kinds}
use Rattle.pearl_silent.specs.Steps.{top_cells}
use Rattle.pearl_solo.proofs.Getting.{reads, dropped_at, each_some, kind_is, kinds_more}
use Rattle.pearl_solo.proofs.devices.kinds_from.Goals as goal

pub loop-i-preserved : goal.loop-i-preserved
loop-i-preserved c =
    let cells : List Cell = top_cells c.args.stack.now.frames in
    let xs : List Cell = drop c.args.first cells in
    let i : ℕ = c.loop-i.i in
    let x : Cell = c.own_cell.result.now in
    let at : slice_get xs i ≡ Some x = dropped_at cells c.args.first i ∙ c.own_cell.ensures in
    let r = reads cells c.args.first c.args.count c.requires.there in
    let of = kind_is x (each_some xs c.args.count i x r.some (omega arith) at) in
    let more = kinds_more xs i x c.loop-i.kinds.items at of c.loop-i.invariant.0 in
    let next : i + 1 ≡ suc i = omega arith in (
      ap (λ n. value_kinds (take n xs)) next
          ∙ (more ∙ ap Some (sym (c.push.ensures.items ∙ ap (λ k. c.loop-i.kinds.items ++ (k ∷ [])) c.kind.ensures))),
      omega (arith, length-append {A = Kind}, ap length c.push.ensures.items, c.loop-i.invariant.1),
    )
