use Rattle.std.proofs.Common.{◌≡◌, take, map}
use Rattle.pearl_program.specs.PlainPrograms.{plain_leaf}
use Rattle.pearl_gen_expr.specs.Tables.{plain_leaf as leaf_said}
use Rattle.pearl_generate.proofs.tables.leaves_of.Given as goal

abbrev pub invariant-loop-leaf : goal.invariant-loop-leaf
invariant-loop-leaf l = map leaf_said l.made.items ≡ map plain_leaf (take l.leaf-index l.leaves)
