use Rattle.pearl_program.specs.PlainPrograms.{plain_prog}
use Rattle.pearl_generate.specs.Routines.{IsTask}
use Rattle.pearl_generate.proofs.Zips.{zip_more}
use Rattle.pearl_generate.proofs.routine.tasks_of.Goals as goal

pub loop-task-preserved : goal.loop-task-preserved
loop-task-preserved c =
    zip_more (IsTask (plain_prog c.args.program.now)) c.as_slice-tasks.result.now c.loop-task.made.items c.push.new.self.items
    c.loop-task.task-index c.task-item.result c.in_ok-task_of.field-0 c.loop-task-test.true c.task-item.is c.in_ok-push.ensures.items
    c.loop-task.invariant c.in_ok-task_of.ensures
