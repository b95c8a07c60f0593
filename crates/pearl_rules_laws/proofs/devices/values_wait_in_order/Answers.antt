use Rattle.std.proofs.Common.{refl}
use Rattle.pearl_rules_laws.proofs.Incoming.{value_joins, value_lost, value_outside}
use Rattle.pearl_rules_laws.proofs.devices.values_wait_in_order.Goals as goal

pub returns-clause-room : goal.returns-clause-room
returns-clause-room c = value_joins

pub returns-clause-full : goal.returns-clause-full
returns-clause-full c = value_lost

pub returns-clause-outside : goal.returns-clause-outside
returns-clause-outside c = value_outside

pub returns-clause-entry : goal.returns-clause-entry
returns-clause-entry c = λ core device x. refl
