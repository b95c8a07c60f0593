use Rattle.pearl_snap.proofs.Tables.{parts_alike}
use Rattle.pearl_snap.proofs.core_rules.has_parts.Goals as goal

pub returns-clause-tables : goal.returns-clause-tables
returns-clause-tables c = λ lawful.
    let alike = parts_alike c.args.object.now c.args.core.now lawful in
    let told = c.has_each_part.ensures in
    (λ yes. alike.1 (told.0 yes), λ parts. told.1 (alike.0 parts))
