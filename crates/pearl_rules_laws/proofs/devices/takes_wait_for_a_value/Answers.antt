use Rattle.pearl_rules_laws.proofs.Incoming.{take_waits}
use Rattle.pearl_rules_laws.proofs.devices.takes_wait_for_a_value.Goals as goal

pub returns : goal.returns
returns c = take_waits
