use Rattle.std.proofs.Common.{◌≤◌, length, ap, sym, ◌∙◌, subst}
use Rattle.std.proofs.lemmas.List.{length-map}
use Rattle.pearl_rules.specs.declared.setup.Setup.{Setup}
use Rattle.pearl_instructions.specs.Setups.{entry_of}
use Rattle.pearl_machine.proofs.machine.Machine.setup.Goals as goal

pub returns-clause-few : goal.returns-clause-few
returns-clause-few c =
    let m = c.self.inside in
    subst (λ n. n ≤ 200) (sym (ap (λ (s : Setup). length s.tasks) c.self.invariant.tables ∙ length-map m.code.tasks entry_of)) c.self.invariant.object.few_tasks
