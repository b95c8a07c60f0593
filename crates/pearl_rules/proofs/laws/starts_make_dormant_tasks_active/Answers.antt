use Rattle.pearl_rules.proofs.TaskLaws.{start_starts, start_kept, start_overruns, start_late}
use Rattle.pearl_rules.proofs.laws.starts_make_dormant_tasks_active.Goals as goal

pub returns-clause-starts : goal.returns-clause-starts
returns-clause-starts c = start_starts

pub returns-clause-keeps : goal.returns-clause-keeps
returns-clause-keeps c = start_kept

pub returns-clause-overruns : goal.returns-clause-overruns
returns-clause-overruns c = start_overruns

pub returns-clause-late : goal.returns-clause-late
returns-clause-late c = start_late
