use Rattle.std.proofs.Common.{ap, arith}
use Rattle.pearl_exchange.specs.Offers.{action_of}
use Rattle.pearl_instructions.specs.Engines.{stepped_by}
use Rattle.pearl_machine.proofs.Owned.{room_own, fits_here}
use Rattle.pearl_machine.proofs.part.step_stack.Goals as goal

pub step-requires-clause-room : goal.step-requires-clause-room
step-requires-clause-room c =
    let same = room_own c.args.code.now c.args.task c.args.stack.now.frames c.requires.own in
    omega (arith, same, c.requires.room)

pub returns-in-Offered-clause-fits : goal.returns-in-Offered-clause-fits
returns-in-Offered-clause-fits c =
    fits_here c.args.code.now c.args.task c.args.stack.now.frames (action_of c.step.new.into) c.laws_hold.ensures.laws c.laws_hold.ensures.valid c.laws_hold.ensures.object
    c.requires.own (ap stepped_by c.in-Offered.ensures.does.1)
