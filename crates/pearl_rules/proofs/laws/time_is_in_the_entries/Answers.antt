use Rattle.pearl_rules.proofs.TimeOfRuns.{run_due, ended_time}
use Rattle.pearl_rules.proofs.laws.time_is_in_the_entries.Goals as goal

pub returns-clause-always : goal.returns-clause-always
returns-clause-always c = run_due

pub returns-clause-ends : goal.returns-clause-ends
returns-clause-ends c = ended_time
