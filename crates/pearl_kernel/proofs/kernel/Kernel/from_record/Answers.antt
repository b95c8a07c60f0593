use Rattle.std.proofs.Common.{sym, subst}
use Rattle.pearl_kernel.specs.Kept.{Kept, IsLawful}
use Rattle.pearl_kernel.proofs.AtStart.{lawful-record, stand-record}
use Rattle.pearl_kernel.proofs.kernel.Kernel.from_record.Goals as goal

pub invariant_of-result : goal.invariant_of-result
invariant_of-result c =
    let made = c.made_cores_are_recordable.ensures c.args.setup.now c.args.core.now c.requires.setup c.requires.record in
    stand-record c.args.setup.now c.args.core.now c.in_ok-state.state c.in_ok-standing.standing c.tasks.result c.requires.setup
    made c.in_ok-state.ensures c.tasks.ensures c.in_ok-standing.ensures

pub returns-clause-lawful : goal.returns-clause-lawful
returns-clause-lawful c =
    let made = c.made_cores_are_recordable.ensures c.args.setup.now c.args.core.now c.requires.setup c.requires.record in
    subst (λ (k : Kept). IsLawful c.args.setup.now k) (sym c.in_ok-state.ensures)
    (lawful-record c.args.setup.now c.args.core.now made)
