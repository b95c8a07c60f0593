use Rattle.std.proofs.Common.{IfOk, subst}
use Rattle.pearl_kernel.specs.Kept.{Kept}
use Rattle.pearl_kernel.proofs.AtStart.{IsAgain, record-again}
use Rattle.pearl_kernel.proofs.kernel.Kernel.recorded.Goals as goal

pub returns-clause-lawful : goal.returns-clause-lawful
returns-clause-lawful c =
    subst (λ (k : Kept). IfOk c.recorded.result (IsAgain k)) c.self.view_is
    (record-again c.self.inside.state c.records_make_the_same_core.ensures c.what_is_recorded_is_lawful.ensures c.recorded.result
    c.recorded.ensures.record c.recorded.ensures.ends)
