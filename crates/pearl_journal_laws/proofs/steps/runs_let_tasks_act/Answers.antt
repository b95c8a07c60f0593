use Rattle.pearl_journal_laws.proofs.StepLaws.{run_is, run_none}
use Rattle.pearl_journal_laws.proofs.steps.runs_let_tasks_act.Goals as goal

pub returns-clause-entry : goal.returns-clause-entry
returns-clause-entry c = run_is

pub returns-clause-form : goal.returns-clause-form
returns-clause-form c = run_none
