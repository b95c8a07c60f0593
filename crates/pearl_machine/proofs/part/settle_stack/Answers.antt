use Rattle.std.proofs.Common.{ap, ◌∙◌, arith}
use Rattle.pearl_exchange.specs.Offers.{action_of}
use Rattle.pearl_instructions.specs.Engines.{stepped_by}
use Rattle.pearl_machine.proofs.Owned.{room_own, fits_here}
use Rattle.pearl_machine.proofs.part.settle_stack.Goals as goal

pub settle-requires-clause-room : goal.settle-requires-clause-room
settle-requires-clause-room c =
    let same = room_own c.args.code.now c.args.task c.args.stack.now.frames c.requires.own in
    omega (arith, same, c.requires.room)

pub returns-clause-fits : goal.returns-clause-fits
returns-clause-fits c =
    fits_here c.args.code.now c.args.task c.settle.new.stack.frames (action_of c.settle.new.into) c.laws_hold.ensures.laws c.laws_hold.ensures.valid c.laws_hold.ensures.object
    (record { stack = c.settle.ensures.stack; task = c.settle.ensures.task ∙ c.requires.own.task })
    (ap stepped_by c.settle.ensures.settles.offers)
