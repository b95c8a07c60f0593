use Rattle.std.proofs.Common.{sym, subst}
use Rattle.pearl_kernel.specs.Kept.{Kept, IsLawful}
use Rattle.pearl_kernel.proofs.AtStart.{lawful-opening, stand-opening}
use Rattle.pearl_kernel.proofs.kernel.Kernel.new.Goals as goal

pub invariant_of-result : goal.invariant_of-result
invariant_of-result c =
    stand-opening c.args.setup.now c.in_ok-state.state c.in_ok-standing.standing c.tasks.result c.requires
    c.in_ok-state.ensures c.tasks.ensures c.in_ok-standing.ensures

pub returns-clause-lawful : goal.returns-clause-lawful
returns-clause-lawful c =
    subst (λ (k : Kept). IsLawful c.args.setup.now k) (sym c.in_ok-state.ensures)
    (lawful-opening c.args.setup.now c.requires)
