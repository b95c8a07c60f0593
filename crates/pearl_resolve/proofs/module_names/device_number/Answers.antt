use Rattle.pearl_resolve.proofs.ModuleNumbers.{device_found, no_device}
use Rattle.pearl_resolve.proofs.module_names.device_number.Goals as goal

pub returns-then-before-devices : goal.returns-then-before-devices
returns-then-before-devices c = device_found c.args.devices.now c.args.text.now c.in_ok-before.before c.in_ok-before.ensures c.if-before-devices.true

pub returns-else-before-devices : goal.returns-else-before-devices
returns-else-before-devices c = no_device c.args.devices.now c.args.text.now c.in_ok-before.before c.in_ok-before.ensures c.if-before-devices.false
