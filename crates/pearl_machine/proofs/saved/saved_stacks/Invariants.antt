use Rattle.std.proofs.Common.{◌≡◌, take}
use Rattle.pearl_machine.specs.Resumed.{stacks_of}
use Rattle.pearl_machine.proofs.saved.saved_stacks.Given as goal

abbrev pub invariant-loop-task : goal.invariant-loop-task
invariant-loop-task l = l.stacks.items ≡ take l.task (stacks_of l.rows l.parts)
