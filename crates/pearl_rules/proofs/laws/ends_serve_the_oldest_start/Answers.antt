use Rattle.pearl_rules.proofs.TaskLaws.{end_serves, trap_serves, stop_serves, stop_itself_serves}
use Rattle.pearl_rules.proofs.laws.ends_serve_the_oldest_start.Goals as goal

pub returns-clause-ends : goal.returns-clause-ends
returns-clause-ends c = end_serves

pub returns-clause-breaks_off : goal.returns-clause-breaks_off
returns-clause-breaks_off c = trap_serves

pub returns-clause-stops : goal.returns-clause-stops
returns-clause-stops c = stop_serves

pub returns-clause-stops_itself : goal.returns-clause-stops_itself
returns-clause-stops_itself c = stop_itself_serves
