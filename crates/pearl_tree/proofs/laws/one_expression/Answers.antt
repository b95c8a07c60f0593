use Rattle.pearl_tree.proofs.OneExpression.{same_expr}
use Rattle.pearl_tree.proofs.laws.one_expression.Goals as goal

pub returns : goal.returns
returns c = same_expr
