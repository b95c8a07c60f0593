use Rattle.pearl_journal_laws.proofs.StepLaws.{turn_is, turn_no_name, turn_none}
use Rattle.pearl_journal_laws.proofs.steps.turns_name_a_task.Goals as goal

pub returns-clause-entry : goal.returns-clause-entry
returns-clause-entry c = turn_is

pub returns-clause-none : goal.returns-clause-none
returns-clause-none c = turn_none

pub returns-clause-form : goal.returns-clause-form
returns-clause-form c = turn_no_name
