use Rattle.pearl_system.proofs.DeviceLaws.{devices_are_specified}
use Rattle.pearl_system.proofs.laws.devices_are_specified.Goals as goal

pub returns : goal.returns
returns c = λ tree devices lists. devices_are_specified tree devices lists
