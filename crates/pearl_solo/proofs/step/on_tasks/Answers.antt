use Rattle.pearl_exchange.specs.Offers.{action_of}
use Rattle.pearl_solo.specs.Gives.{gave}
use Rattle.pearl_solo.proofs.Families.{beyond_tasks}
use Rattle.pearl_solo.proofs.Small.{own_least}
use Rattle.pearl_instructions.specs.declared.instr.Instr.TheVariants.{Resume}
use Rattle.pearl_silent.proofs.Offered.{does_as, ready_at}
use Rattle.pearl_solo.proofs.step.on_tasks.Goals as goal

pub resume-requires-clause-ready : goal.resume-requires-clause-ready
resume-requires-clause-ready c = ready_at c.args.code.now c.args.instr.now (Resume c.in-Resume.form) c.args.here.now c.args.stack.now c.in-Resume.is c.requires.at

pub returns-in-Resume : goal.returns-in-Resume
returns-in-Resume c = does_as c.args.code.now c.args.instr.now (Resume c.in-Resume.form) c.args.stack.now c.args.stack.now (gave c.resume.result (action_of c.resume.new.into)) c.in-Resume.is c.resume.ensures

pub on_devices-requires-clause-family : goal.on_devices-requires-clause-family
on_devices-requires-clause-family c = beyond_tasks c.args.instr.now c.requires.family c.in_default.not-Activate c.in_default.not-Continue c.in_default.not-Resume c.in_default.not-Suspend c.in_default.not-Terminate c.in_default.not-Prevent c.in_default.not-SuspendOwn c.in_default.not-TerminateOwn c.in_default.not-PreventOwn

pub own_task-own-requires-clause-task : goal.own_task-own-requires-clause-task
own_task-own-requires-clause-task c = own_least c.args.code.now c.args.stack.now.frames c.requires.at.stack

pub own_task-own-requires-in-TerminateOwn-clause-task : goal.own_task-own-requires-in-TerminateOwn-clause-task
own_task-own-requires-in-TerminateOwn-clause-task c = own_least c.args.code.now c.args.stack.now.frames c.requires.at.stack

pub own_task-own-requires-in-PreventOwn-clause-task : goal.own_task-own-requires-in-PreventOwn-clause-task
own_task-own-requires-in-PreventOwn-clause-task c = own_least c.args.code.now c.args.stack.now.frames c.requires.at.stack
