use Rattle.std.proofs.Common.{arith}
use Rattle.pearl_solo.proofs.OwnRows.{lowest_there, lowest_routine}
use Rattle.pearl_solo.proofs.own.own_task.Goals as goal

pub frame-lowest-requires : goal.frame-lowest-requires
frame-lowest-requires c = lowest_there c.args.stack.now.frames c.requires.some

pub procedures-requires : goal.procedures-requires
procedures-requires c =
    let is = lowest_routine c.args.stack.now.frames c.frame-lowest.result c.requires.some c.frame-lowest.ensures in omega (arith, is, c.requires.task)

pub overflow_sub-result : goal.overflow_sub-result
overflow_sub-result c =
    let is = lowest_routine c.args.stack.now.frames c.frame-lowest.result c.requires.some c.frame-lowest.ensures in omega (arith, is, c.requires.task, c.procedures.ensures)

pub returns : goal.returns
returns c =
    let is = lowest_routine c.args.stack.now.frames c.frame-lowest.result c.requires.some c.frame-lowest.ensures in omega (arith, is, c.requires.task, c.procedures.ensures)
