use Rattle.std.proofs.Common.{◌≡◌, take, map}
use Rattle.pearl_rules.specs.Core.{first_row}
use Rattle.pearl_kernel.proofs.opening.first_rows.Given as goal

abbrev pub invariant-loop-task : goal.invariant-loop-task
invariant-loop-task l = l.rows.items ≡ map first_row (take l.task-index l.tasks)
