use Rattle.std.proofs.Common.{◌≡◌, map, take}
use Rattle.pearl_machine.specs.Parts.{first_part}
use Rattle.pearl_machine.proofs.part.first_parts.Given as goal

abbrev pub invariant-loop-task : goal.invariant-loop-task
invariant-loop-task l = l.parts.items ≡ map (first_part l.frames) (take l.task-index l.tasks)
