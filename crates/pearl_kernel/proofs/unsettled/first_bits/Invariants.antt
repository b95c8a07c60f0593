use Rattle.pearl_kernel.proofs.Unsettling.{AreFirst}
use Rattle.pearl_kernel.proofs.unsettled.first_bits.Given as goal

abbrev pub invariant-loop-task : goal.invariant-loop-task
invariant-loop-task l = AreFirst l.rows l.words.items l.task
