use Rattle.pearl_machine.proofs.Filling.{Filled}
use Rattle.pearl_machine.proofs.saved.filled_parts.Given as goal

abbrev pub invariant-loop-task : goal.invariant-loop-task
invariant-loop-task l = Filled l.code l.rows l.stacks l.task l.parts.items
