use Rattle.pearl_rules.proofs.TaskLaws.{end_ends, trap_breaks_off, terminate_stops, terminate_stops_itself, dormant_stopped}
use Rattle.pearl_rules.proofs.laws.ends_make_tasks_dormant.Goals as goal

pub returns-clause-ends : goal.returns-clause-ends
returns-clause-ends c = end_ends

pub returns-clause-breaks_off : goal.returns-clause-breaks_off
returns-clause-breaks_off c = trap_breaks_off

pub returns-clause-stops : goal.returns-clause-stops
returns-clause-stops c = terminate_stops

pub returns-clause-stops_itself : goal.returns-clause-stops_itself
returns-clause-stops_itself c = terminate_stops_itself

pub returns-clause-dormant_stopped : goal.returns-clause-dormant_stopped
returns-clause-dormant_stopped c = dormant_stopped
