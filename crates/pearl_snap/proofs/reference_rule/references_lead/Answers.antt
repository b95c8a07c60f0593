use Rattle.std.proofs.Common.{[], subst}
use Rattle.std.specs.Prelude.{◌↔◌, IsTrue}
use Rattle.std.specs.List.{AllByRecursion}
use Rattle.pearl_snap.specs.Leads.{AllLead}
use Rattle.pearl_snap.proofs.References.{leads_refers}
use Rattle.pearl_snap.proofs.reference_rule.references_lead.Goals as goal

pub returns-clause-rule : goal.returns-clause-rule
returns-clause-rule c = λ o parts stand.
    let s = c.args.saved.now in
    let same = leads_refers o s parts stand in
    let told =
    subst (λ slots. IsTrue c.stacks_lead.result ↔ AllByRecursion (AllLead slots []) s.stacks) c.as_slice.ensures
    (subst (λ stacks. IsTrue c.stacks_lead.result ↔ AllByRecursion (AllLead c.as_slice.result.now []) stacks) c.as_slice-2.ensures c.stacks_lead.ensures) in
    (λ yes. same.0 (told.0 yes), λ refers. told.1 (same.1 refers))
