use Rattle.pearl_system.specs.Devices.{device_key, IsDevice}
use Rattle.pearl_system.proofs.Once.{lists_once}
use Rattle.pearl_system.proofs.laws.one_device_list.Goals as goal

pub returns : goal.returns
returns c = λ tree devices others first second. lists_once device_key (IsDevice tree) devices others first second
