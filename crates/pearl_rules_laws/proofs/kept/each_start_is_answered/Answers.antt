use Rattle.pearl_rules_laws.proofs.Lasting.{run_answers, starts_answered, dormant_keep_none}
use Rattle.pearl_rules_laws.proofs.kept.each_start_is_answered.Goals as goal

pub returns-clause-runs : goal.returns-clause-runs
returns-clause-runs c = run_answers

pub returns-clause-from : goal.returns-clause-from
returns-clause-from c = starts_answered

pub returns-clause-keeps_none : goal.returns-clause-keeps_none
returns-clause-keeps_none c = dormant_keep_none
