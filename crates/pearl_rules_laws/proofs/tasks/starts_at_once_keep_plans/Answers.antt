use Rattle.pearl_rules_laws.proofs.Modes.{start_named, start_declared, start_kept, start_overruns}
use Rattle.pearl_rules_laws.proofs.tasks.starts_at_once_keep_plans.Goals as goal

pub returns-clause-named : goal.returns-clause-named
returns-clause-named c = start_named

pub returns-clause-declared : goal.returns-clause-declared
returns-clause-declared c = start_declared

pub returns-clause-keeps : goal.returns-clause-keeps
returns-clause-keeps c = start_kept

pub returns-clause-overruns : goal.returns-clause-overruns
returns-clause-overruns c = start_overruns
