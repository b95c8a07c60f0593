use Rattle.std.proofs.Common.{take, All}
use Rattle.pearl_tree.specs.Operators.{HasKey}
use Rattle.pearl_tree.proofs.operator.find_op.Given as goal

abbrev pub invariant-loop-row : goal.invariant-loop-row
invariant-loop-row g l = All (λ row. ¬ HasKey row l.code l.left l.right) (take l.row-index l.rows)
