use Rattle.std.proofs.Common.{take}
use Rattle.pearl_verify.specs.Jumps.{AreNumbered}
use Rattle.pearl_verify.specs.Numbers.{IsTree}
use Rattle.pearl_verify.proofs.jumps.shape_numbers.Given as goal

abbrev pub invariant-loop-shape : goal.invariant-loop-shape
invariant-loop-shape l = IsTree l.tree.edges × AreNumbered l.tree.edges (take l.shape-index l.shapes) l.numbers.items
