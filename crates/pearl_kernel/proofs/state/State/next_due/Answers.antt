use Rattle.std.proofs.Common.{MatchOption, subst}
use Rattle.pearl_timer.specs.Next.{IsNext, NoneIsNext}
use Rattle.pearl_timer.specs.Timetable.{Timetable, IsDue}
use Rattle.pearl_kernel.specs.Kept.{Kept}
use Rattle.pearl_kernel.specs.Timing.{timetable}
use Rattle.pearl_kernel.proofs.state.State.next_due.Goals as goal

pub returns-clause-next : goal.returns-clause-next
returns-clause-next c =
    let s = c.self.inside in
    let next = subst (λ (t : Timetable). MatchOption c.next_due.result (NoneIsNext (IsDue t) s.moment) (IsNext (IsDue t) s.moment))
    c.self.invariant.0 c.next_due.ensures.next in
    subst (λ (k : Kept). MatchOption c.next_due.result
    (NoneIsNext (IsDue (timetable k.core.tasks)) k.core.moment) (IsNext (IsDue (timetable k.core.tasks)) k.core.moment))
    c.self.view_is next
