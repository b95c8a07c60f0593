use Rattle.std.proofs.Common.{MatchOption, subst}
use Rattle.pearl_timer.specs.Next.{IsFirstFrom, NoneFrom}
use Rattle.pearl_timer.specs.Timetable.{Timetable, IsTaskDue}
use Rattle.pearl_kernel.specs.Kept.{Kept}
use Rattle.pearl_kernel.specs.Timing.{timetable}
use Rattle.pearl_kernel.proofs.state.State.due_task.Goals as goal

pub returns : goal.returns
returns c =
    let s = c.self.inside in
    let next = subst (λ (t : Timetable). MatchOption c.next_task.result (NoneFrom (IsTaskDue t s.moment) c.args.from) (IsFirstFrom (IsTaskDue t s.moment) c.args.from))
    c.self.invariant.0 c.next_task.ensures in
    subst (λ (k : Kept). MatchOption c.next_task.result
    (NoneFrom (IsTaskDue (timetable k.core.tasks) k.core.moment) c.args.from) (IsFirstFrom (IsTaskDue (timetable k.core.tasks) k.core.moment) c.args.from))
    c.self.view_is next
