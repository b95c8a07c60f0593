use Rattle.std.proofs.Common.{refl}
use Rattle.pearl_value.specs.declared.device.Device.TheVariants as device
use Rattle.pearl_rules_laws.proofs.Standing.{opens_task, opens_length, opens_masked, opens_channel}
use Rattle.pearl_rules_laws.proofs.laws.runs_open_as_declared.Goals as goal

pub returns-clause-tasks : goal.returns-clause-tasks
returns-clause-tasks c = opens_task

pub returns-clause-as_many : goal.returns-clause-as_many
returns-clause-as_many c = opens_length

pub returns-clause-moment : goal.returns-clause-moment
returns-clause-moment c = λ setup. refl

pub returns-clause-last : goal.returns-clause-last
returns-clause-last c = λ setup. refl

pub returns-clause-slots : goal.returns-clause-slots
returns-clause-slots c = λ setup. refl

pub returns-clause-counts : goal.returns-clause-counts
returns-clause-counts c = λ setup. refl

pub returns-clause-clock : goal.returns-clause-clock
returns-clause-clock c = λ setup. refl

pub returns-clause-channels : goal.returns-clause-channels
returns-clause-channels c = λ setup. refl

pub returns-clause-masked : goal.returns-clause-masked
returns-clause-masked c = opens_masked

pub returns-clause-no_bytes : goal.returns-clause-no_bytes
returns-clause-no_bytes c = λ setup n number direction at. opens_channel setup n (device.Terminal number direction) at

pub returns-clause-no_values : goal.returns-clause-no_values
returns-clause-no_values c = λ setup n number kind at. opens_channel setup n (device.Input number kind) at
