use Rattle.pearl_system.proofs.DeviceLaws.{specified_means}
use Rattle.pearl_system.proofs.laws.specified_means_device.Goals as goal

pub returns : goal.returns
returns c = λ tree keeps n spec stands. specified_means tree keeps n spec stands
