use Rattle.pearl_sound.proofs.ModuleDevices.{devices_there}
use Rattle.pearl_sound.proofs.laws.module_devices_are_there.Goals as goal

pub returns : goal.returns
returns c = devices_there
