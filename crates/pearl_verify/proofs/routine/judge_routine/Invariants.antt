use Rattle.std.proofs.Common.{◌≡◌, ℕ, ◌<◌, None, length, slice_get}
use Rattle.pearl_instructions.specs.Valid.{shape_before, judged_at}
use Rattle.pearl_verify.specs.Numbers.{IsNumbered}
use Rattle.pearl_verify.proofs.routine.judge_routine.Given as goal

abbrev pub invariant-loop-i : goal.invariant-loop-i
invariant-loop-i l =
    (l.i < length l.code.instructions → (l.running.kinds ≡ shape_before l.object l.routine l.code l.i) × IsNumbered l.jumps.tree.edges l.running)
    × ((j : ℕ) → j < l.i → judged_at l.object l.routine l.code j (slice_get l.code.instructions j) ≡ None)
