use Rattle.pearl_rules_laws.proofs.Hearing.{main_hears, other_hears, run_hears, run_starts}
use Rattle.pearl_rules_laws.proofs.runs.active_tasks_alone_have_heard.Goals as goal

pub returns-clause-main : goal.returns-clause-main
returns-clause-main c = main_hears

pub returns-clause-other : goal.returns-clause-other
returns-clause-other c = other_hears

pub returns-clause-runs : goal.returns-clause-runs
returns-clause-runs c = run_hears

pub returns-clause-started : goal.returns-clause-started
returns-clause-started c = run_starts
