use Rattle.std.proofs.Common.{◌≡◌, map, take}
use Rattle.pearl_instructions.specs.Setups.{entry_of}
use Rattle.pearl_machine.proofs.tables.entries.Given as goal

abbrev pub invariant-loop-task : goal.invariant-loop-task
invariant-loop-task l = l.entries.items ≡ map entry_of (take l.task-index l.tasks)
