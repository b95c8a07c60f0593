use Rattle.pearl_gen_stmt.proofs.Procedures.{statements_carry}
use Rattle.pearl_gen_stmt.proofs.laws.statements_carry.Goals as goal

pub returns : goal.returns
returns c = statements_carry
