use Rattle.std.proofs.Common.{arith}
use Rattle.pearl_machine.proofs.Owned.{room_own}
use Rattle.pearl_machine.proofs.part.answer_here.Goals as goal

pub answer-requires-clause-room : goal.answer-requires-clause-room
answer-requires-clause-room c =
    let same = room_own c.args.code.now c.args.task c.args.part.now.stack.frames c.requires.own in
    omega (arith, same, c.requires.memory.room_is)
