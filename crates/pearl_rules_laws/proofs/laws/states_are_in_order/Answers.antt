use Rattle.pearl_rules_laws.proofs.Standing.{states_length, states_at}
use Rattle.pearl_rules_laws.proofs.laws.states_are_in_order.Goals as goal

pub returns-clause-as_many : goal.returns-clause-as_many
returns-clause-as_many c = states_length

pub returns-clause-each : goal.returns-clause-each
returns-clause-each c = states_at
