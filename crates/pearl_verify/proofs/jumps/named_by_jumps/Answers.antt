use Rattle.std.proofs.Common.{◌≡◌, ℕ, ◌+◌, ◌<◌, Some, List, length, take, slice_get, sym, subst, ◌∙◌}
use Rattle.pearl_instructions.specs.declared.instr.Instr.{Instr}
use Rattle.pearl_instructions.specs.Valid.{is_named, targets}
use Rattle.pearl_verify.proofs.Tables.{named_more, marked_long}
use Rattle.pearl_verify.proofs.jumps.named_by_jumps.Goals as goal

pub loop-instr-preserved : goal.loop-instr-preserved
loop-instr-preserved c =
    let is : List Instr = c.args.instrs.now in
    let k : ℕ = c.loop-instr.instr-index in
    let x : Instr = c.instr-item.result in
    subst (λ marks. (length marks ≡ length is) × ((i : ℕ) → i < length is → slice_get marks i ≡ Some (is_named (take (k + 1) is) i))) (sym c.mark_targets.ensures) (
      marked_long (targets x) c.loop-instr.marks.items ∙ c.loop-instr.invariant.0,
      named_more is k x c.loop-instr.marks.items c.loop-instr-test.true c.instr-item.is c.loop-instr.invariant.1,
    )
