use Rattle.pearl_rules_laws.proofs.Hearing.{turn_hears, state_hears}
use Rattle.pearl_rules_laws.proofs.Picking.{turn_core, state_core}
use Rattle.pearl_rules_laws.proofs.runs.turns_and_states_change_no_more.Goals as goal

pub returns-clause-turns : goal.returns-clause-turns
returns-clause-turns c = turn_core

pub returns-clause-tells : goal.returns-clause-tells
returns-clause-tells c = state_core

pub returns-clause-turns_heard : goal.returns-clause-turns_heard
returns-clause-turns_heard c = turn_hears

pub returns-clause-tells_heard : goal.returns-clause-tells_heard
returns-clause-tells_heard c = state_hears
