use Rattle.pearl_records.specs.Records.{channels_made}
use Rattle.pearl_kernel.proofs.Made.{Left}
use Rattle.pearl_kernel.proofs.recorded.channels_made.Given as goal

abbrev pub invariant-loop-device : goal.invariant-loop-device
invariant-loop-device l =
    Left l.setup.devices (channels_made l.setup.devices l.core.switches l.core.terminals l.core.inputs) l.device-index l.channels.items
    l.switches l.terminals l.inputs
