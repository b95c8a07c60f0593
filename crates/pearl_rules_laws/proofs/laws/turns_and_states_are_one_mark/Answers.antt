use Rattle.pearl_rules_laws.proofs.Marks.{turn_marks, state_marks, end_marks}
use Rattle.pearl_rules_laws.proofs.laws.turns_and_states_are_one_mark.Goals as goal

pub returns-clause-turn : goal.returns-clause-turn
returns-clause-turn c = turn_marks

pub returns-clause-state : goal.returns-clause-state
returns-clause-state c = state_marks

pub returns-clause-end : goal.returns-clause-end
returns-clause-end c = end_marks
