use Rattle.std.proofs.Common.{sym, subst}
use Rattle.pearl_rules.specs.Plans.{continuation_began}
use Rattle.pearl_kernel.specs.Kept.{Kept}
use Rattle.pearl_kernel.specs.Timing.{IsTimely}
use Rattle.pearl_kernel.proofs.Planned.{keeps-continuation_began, keeps-timely}
use Rattle.pearl_kernel.proofs.state.State.reach.Goals as goal

pub begin_activation-requires-clause-timely : goal.begin_activation-requires-clause-timely
begin_activation-requires-clause-timely c =
    let core = c.args.self.now.core in
    subst (λ (k : Kept). IsTimely k.core) (sym c.begin_continuation.ensures)
    (keeps-timely 0 core (continuation_began c.args.interrupt core c.args.task)
    (keeps-continuation_began c.args.interrupt core c.args.task c.requires.timely.plans) c.requires.timely)
