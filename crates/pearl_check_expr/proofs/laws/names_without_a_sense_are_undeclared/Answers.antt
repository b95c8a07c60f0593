use Rattle.pearl_check_expr.proofs.Undeclared.{undeclared}
use Rattle.pearl_check_expr.proofs.laws.names_without_a_sense_are_undeclared.Goals as goal

pub returns : goal.returns
returns c = undeclared
