use Rattle.std.proofs.Common.{◌<◌, length, sym, subst}
use Rattle.pearl_rules.specs.Plans.{each_task, reached}
use Rattle.pearl_kernel.specs.Kept.{Kept}
use Rattle.pearl_kernel.specs.Timing.{IsTimely}
use Rattle.pearl_kernel.proofs.Planned.{keeps-all_reached, keeps-timely, turn-there, turn-room}
use Rattle.pearl_kernel.proofs.state.State.occur.Goals as goal

pub reach-requires-clause-there : goal.reach-requires-clause-there
reach-requires-clause-there c =
    let l = c.loop-task in
    let core = c.args.self.now.core in
    let interrupt = c.args.interrupt in
    subst (λ (k : Kept). l.task < length k.core.tasks) (sym l.invariant.same)
    (turn-there l.task c.tasks-count.result core (each_task (reached interrupt) l.task core)
    (keeps-all_reached interrupt l.task core c.requires.timely.plans) c.loop-task-test.true l.invariant.all)

pub reach-requires-clause-room : goal.reach-requires-clause-room
reach-requires-clause-room c =
    let l = c.loop-task in
    let core = c.args.self.now.core in
    let interrupt = c.args.interrupt in
    subst (λ (k : Kept). length k.core.told < 200) (sym l.invariant.same)
    (turn-room l.task c.tasks-count.result core (each_task (reached interrupt) l.task core)
    (keeps-all_reached interrupt l.task core c.requires.timely.plans) c.loop-task-test.true l.invariant.all
    c.requires.few c.requires.told)

pub reach-requires-clause-timely : goal.reach-requires-clause-timely
reach-requires-clause-timely c =
    let l = c.loop-task in
    let core = c.args.self.now.core in
    let interrupt = c.args.interrupt in
    subst (λ (k : Kept). IsTimely k.core) (sym l.invariant.same)
    (keeps-timely l.task core (each_task (reached interrupt) l.task core)
    (keeps-all_reached interrupt l.task core c.requires.timely.plans) c.requires.timely)
