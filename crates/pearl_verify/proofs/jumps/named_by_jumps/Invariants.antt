use Rattle.std.proofs.Common.{◌≡◌, ℕ, ◌<◌, Some, length, take, slice_get}
use Rattle.pearl_instructions.specs.Valid.{is_named}
use Rattle.pearl_verify.proofs.jumps.named_by_jumps.Given as goal

abbrev pub invariant-loop-instr : goal.invariant-loop-instr
invariant-loop-instr l =
    (length l.marks.items ≡ length l.instrs) × ((i : ℕ) → i < length l.instrs → slice_get l.marks.items i ≡ Some (is_named (take l.instr-index l.instrs) i))
