use Rattle.pearl_gen_stmt.proofs.Procedures.{procedures_carry}
use Rattle.pearl_gen_stmt.proofs.laws.procedures_carry.Goals as goal

pub returns : goal.returns
returns c = procedures_carry
