use Rattle.std.proofs.Common.{arith}
use Rattle.pearl_silent.proofs.Tops.{cells_small}
use Rattle.pearl_silent.proofs.own.behind.Goals as goal

pub overflow_add-result : goal.overflow_add-result
overflow_add-result c = let small = cells_small c.args.stack.now.frames in omega (arith, small, c.requires, c.size-size.ensures)
