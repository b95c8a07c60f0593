use Rattle.pearl_rules_laws.proofs.Planning.{end_keeps, trap_keeps, stop_keeps}
use Rattle.pearl_rules_laws.proofs.laws.ends_keep_the_plan_of_starts.Goals as goal

pub returns-clause-ends : goal.returns-clause-ends
returns-clause-ends c = end_keeps

pub returns-clause-breaks_off : goal.returns-clause-breaks_off
returns-clause-breaks_off c = trap_keeps

pub returns-clause-stops : goal.returns-clause-stops
returns-clause-stops c = stop_keeps
