use Rattle.std.proofs.Common.{◌++◌, ap, ◌∙◌}
use Rattle.pearl_tree.specs.Faults.{fault_if}
use Rattle.pearl_names.specs.declared.scope.View.TheVariants.{Within}
use Rattle.pearl_check.specs.Findings.{sense_of}
use Rattle.pearl_check.specs.Roles.{is_misnamed}
use Rattle.pearl_check.specs.Views.{seen}
use Rattle.pearl_check.proofs.FoundParts.{added}
use Rattle.pearl_check.proofs.roles.named_faults.Goals as goal

pub returns-clause-faults : goal.returns-clause-faults
returns-clause-faults c = λ table holds.
    let name = c.args.name.now in
    added c.args.faults.now.items _ (fault_if (is_misnamed c.args.role (seen table (Within c.args.scope) name)) name.place 16)
    (c.in_ok-tell_if.ensures
    ∙ ap (λ misnamed. c.args.faults.now.items ++ fault_if misnamed name.place 16)
    (c.is_misnamed-misnamed.ensures _ _ (c.sense_of.ensures table holds)
    ∙ ap (λ found. is_misnamed c.args.role (sense_of table found)) (c.find_from-found.ensures table holds)))
