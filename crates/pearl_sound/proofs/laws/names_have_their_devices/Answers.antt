use Rattle.pearl_sound.proofs.Devices.{names_devices}
use Rattle.pearl_sound.proofs.laws.names_have_their_devices.Goals as goal

pub returns : goal.returns
returns c = names_devices
