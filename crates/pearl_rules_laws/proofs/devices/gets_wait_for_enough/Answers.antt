use Rattle.pearl_rules_laws.proofs.Incoming.{get_waits}
use Rattle.pearl_rules_laws.proofs.devices.gets_wait_for_enough.Goals as goal

pub returns : goal.returns
returns c = get_waits
