use Rattle.pearl_rules_laws.proofs.Incoming.{send_tells}
use Rattle.pearl_rules_laws.proofs.devices.sends_tell_their_value.Goals as goal

pub returns : goal.returns
returns c = send_tells
