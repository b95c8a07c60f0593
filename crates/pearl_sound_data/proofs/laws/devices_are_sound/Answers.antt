use Rattle.pearl_sound_data.proofs.Devices.{program_devices}
use Rattle.pearl_sound_data.proofs.laws.devices_are_sound.Goals as goal

pub returns : goal.returns
returns c = λ tree devices procedures lists. program_devices tree devices lists
