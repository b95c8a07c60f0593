use Rattle.pearl_gen_expr.proofs.Whole.{expressions_carry}
use Rattle.pearl_gen_expr.proofs.laws.expressions_carry.Goals as goal

pub returns : goal.returns
returns c = expressions_carry
