use Rattle.pearl_rules_laws.proofs.Hearing.{pass_keeps, arrival_keeps}
use Rattle.pearl_rules_laws.proofs.runs.milliseconds_and_arrivals_keep_what_was_heard.Goals as goal

pub returns-clause-passes : goal.returns-clause-passes
returns-clause-passes c = pass_keeps

pub returns-clause-arrives : goal.returns-clause-arrives
returns-clause-arrives c = arrival_keeps
