use Rattle.std.proofs.Common.{subst}
use Rattle.pearl_names.proofs.Offered.{all_taken}
use Rattle.pearl_check.specs.Asked.{asked_in}
use Rattle.pearl_check.specs.Findings.{AreFound}
use Rattle.pearl_check.specs.Roles.{asked_faults}
use Rattle.pearl_check.proofs.Adding.{Adds, adds_none, adds_more}
use Rattle.pearl_check.proofs.AskedLists.{asked_in-nil, asked_taken}
use Rattle.pearl_check.proofs.FoundParts.{found_none, found_more}
use Rattle.pearl_check.proofs.rules.all_asked_faults.Goals as goal

pub loop-part-init : goal.loop-part-init
loop-part-init c = (
  λ table holds. found_none table _ _ asked_in-nil c.new-findings.ensures.kinds c.new-findings.ensures.names,
  adds_none _ _ asked_faults _ asked_in-nil,
)

pub loop-part-preserved : goal.loop-part-preserved
loop-part-preserved c =
    let taken = asked_taken c.args.asked.now c.loop-part.part-index c.part-item.result c.loop-part-test.true c.part-item.is in (
      λ table holds. found_more table _ _ _ _ _ taken (c.loop-part.invariant.0 table holds) (c.in_ok-asked_faults.ensures.found table holds),
      adds_more _ _ _ _ asked_faults _ _ _ taken c.loop-part.invariant.1 c.in_ok-asked_faults.ensures.faults,
    )

pub returns-clause-found : goal.returns-clause-found
returns-clause-found c = λ table holds.
    subst (λ l. AreFound table c.loop-part.findings (asked_in l)) (all_taken c.args.asked.now c.loop-part.part-index c.loop-part-test.false)
    (c.loop-part.invariant.0 table holds)

pub returns-clause-faults : goal.returns-clause-faults
returns-clause-faults c =
    subst (λ l. Adds c.args.table.now c.args.faults.now.items c.loop-part.faults.items asked_faults (asked_in l))
    (all_taken c.args.asked.now c.loop-part.part-index c.loop-part-test.false) c.loop-part.invariant.1
