use Rattle.pearl_rules.proofs.TaskLaws.{end_told, trap_told, stop_told, stop_itself_told}
use Rattle.pearl_rules.proofs.laws.ends_are_told_first.Goals as goal

pub returns-clause-ends : goal.returns-clause-ends
returns-clause-ends c = end_told

pub returns-clause-breaks_off : goal.returns-clause-breaks_off
returns-clause-breaks_off c = trap_told

pub returns-clause-stops : goal.returns-clause-stops
returns-clause-stops c = stop_told

pub returns-clause-stops_itself : goal.returns-clause-stops_itself
returns-clause-stops_itself c = stop_itself_told
