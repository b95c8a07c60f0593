use Rattle.pearl_rules_laws.proofs.Doing.{turn_changes_nothing, enter_changes_nothing}
use Rattle.pearl_rules_laws.proofs.laws.turns_and_entries_change_nothing.Goals as goal

pub returns-clause-turns : goal.returns-clause-turns
returns-clause-turns c = turn_changes_nothing

pub returns-clause-enters : goal.returns-clause-enters
returns-clause-enters c = enter_changes_nothing
