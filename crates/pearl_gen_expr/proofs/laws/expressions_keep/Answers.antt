use Rattle.pearl_gen_expr.proofs.Keeping.{expressions_keep}
use Rattle.pearl_gen_expr.proofs.laws.expressions_keep.Goals as goal

pub returns : goal.returns
returns c = expressions_keep
