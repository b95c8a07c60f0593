use Rattle.std.proofs.Common.{rules, arith, ◌≡◌, ◌+◌, ◌<◌, ◌++◌, [], ◌∷◌, List, Some, length, map, take, get_or, slice_get, sym, ap, ◌∙◌}
use Rattle.std.proofs.lemmas.List.{length-map, length-take-le}
use Rattle.std.proofs.lemmas.Option.{slice_get-get_or}
use Rattle.pearl_value.specs.declared.cell.Cell.{Cell}
use Rattle.pearl_stack.specs.Frames.{Stack, pushed, used}
use Rattle.pearl_stack.specs.Laws.{all_pushed}
use Rattle.pearl_saved.specs.Stacks.{cell_made}
use Rattle.pearl_saved.proofs.Reading.{more_mapped, pushed_more, pushed_long, pushed_used}
use Rattle.pearl_saved.proofs.stacks.push_all.Goals as goal

pub push-requires-clause-some : goal.push-requires-clause-some
push-requires-clause-some c = λ none.
    let xs : List Cell = map cell_made (take c.loop-operand.operand-index c.args.operands.now) in
    absurd (omega (arith, ap length none, ap (λ (s : Stack). length s.frames) c.loop-operand.invariant, pushed_long xs c.args.stack.now.frames, c.requires.some))

pub push-requires-clause-room : goal.push-requires-clause-room
push-requires-clause-room c =
    let i = c.loop-operand.operand-index in
    let operands = c.args.operands.now in
    let less : i < length operands = search rules in
    omega (
      arith,
      less,
      ap (λ (s : Stack). used s.frames) c.loop-operand.invariant,
      ap (λ (s : Stack). s.room) c.loop-operand.invariant,
      pushed_used (map cell_made (take i operands)) c.args.stack.now.frames c.requires.some,
      length-map (take i operands) cell_made,
      length-take-le i operands (omega (arith, less)),
      c.requires.room,
    )

pub loop-operand-preserved : goal.loop-operand-preserved
loop-operand-preserved c =
    let i = c.loop-operand.operand-index in
    let operands = c.args.operands.now in
    let old : Stack = c.args.stack.now in
    let x = c.operand-item.result in
    let less : i < length operands = search rules in
    let is : x ≡ get_or operands i x = search rules in
    let at : slice_get operands i ≡ Some x = slice_get-get_or operands i x less ∙ ap Some (sym is) in
    let xs : List Cell = map cell_made (take i operands) in
    let more : map cell_made (take (i + 1) operands) ≡ xs ++ cell_made x ∷ [] = more_mapped cell_made operands i x at in
    c.push.ensures
    ∙ ap (λ (s : Stack). record s { frames = pushed c.made.result s.frames }) c.loop-operand.invariant
    ∙ ap (λ fs. record old { frames = fs })
    (ap (λ y. pushed y (all_pushed xs old.frames)) c.made.ensures ∙ sym (ap (λ ys. all_pushed ys old.frames) more ∙ pushed_more xs (cell_made x) old.frames))
