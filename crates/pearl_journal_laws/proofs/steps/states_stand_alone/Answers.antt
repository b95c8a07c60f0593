use Rattle.pearl_journal_laws.proofs.StepLaws.{state_is, state_none}
use Rattle.pearl_journal_laws.proofs.steps.states_stand_alone.Goals as goal

pub returns-clause-entry : goal.returns-clause-entry
returns-clause-entry c = state_is

pub returns-clause-form : goal.returns-clause-form
returns-clause-form c = state_none
