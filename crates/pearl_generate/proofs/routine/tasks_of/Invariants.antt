use Rattle.std.proofs.Common.{take}
use Rattle.std.specs.List.{AllZip}
use Rattle.pearl_program.specs.PlainPrograms.{plain_prog}
use Rattle.pearl_generate.specs.Routines.{IsTask}
use Rattle.pearl_generate.proofs.routine.tasks_of.Given as goal

abbrev pub invariant-loop-task : goal.invariant-loop-task
invariant-loop-task l = AllZip (IsTask (plain_prog l.program)) (take l.task-index l.tasks) l.made.items
