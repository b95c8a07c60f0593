use Rattle.std.proofs.Common.{sym, arith}
use Rattle.pearl_rules.specs.Devices.{channel_of}
use Rattle.pearl_kernel.specs.Channels.{taken_in_of}
use Rattle.pearl_kernel.proofs.Changing.{stirs-channel}
use Rattle.pearl_kernel.proofs.Waiting.{came-in}
use Rattle.pearl_kernel.proofs.state.State.come_in.Goals as goal

pub returns-then-take_in-clause-waiting : goal.returns-then-take_in-clause-waiting
returns-then-take_in-clause-waiting c =
    let k = c.args.self.now in
    let room = sym c.if-take_in.ensures.room in
    grind (arith, came-in k c.args.device c.args.value.now c.requires.input room, c.if-take_in.ensures.waiting)

pub returns-then-take_in-clause-stirs : goal.returns-then-take_in-clause-stirs
returns-then-take_in-clause-stirs c =
    let k = c.args.self.now in
    stirs-channel k c.take_in.new.self c.args.device (taken_in_of (channel_of k.core c.args.device) c.args.value.now)
    c.if-take_in.ensures.waiting
