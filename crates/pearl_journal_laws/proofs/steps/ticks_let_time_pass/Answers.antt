use Rattle.pearl_journal_laws.proofs.StepLaws.{tick_is, tick_late, tick_none}
use Rattle.pearl_journal_laws.proofs.steps.ticks_let_time_pass.Goals as goal

pub returns-clause-entry : goal.returns-clause-entry
returns-clause-entry c = tick_is

pub returns-clause-late : goal.returns-clause-late
returns-clause-late c = tick_late

pub returns-clause-form : goal.returns-clause-form
returns-clause-form c = tick_none
