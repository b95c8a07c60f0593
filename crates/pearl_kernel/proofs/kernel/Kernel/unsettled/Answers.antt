use Rattle.std.proofs.Common.{MatchOption, subst}
use Rattle.pearl_kernel.specs.Kept.{Kept, AllSettled, IsFirst}
use Rattle.pearl_kernel.proofs.kernel.Kernel.unsettled.Goals as goal

pub returns : goal.returns
returns c = subst (λ (k : Kept). MatchOption c.unsettled.result (AllSettled k) (IsFirst k)) c.self.view_is c.unsettled.ensures
