use Rattle.pearl_check_expr.proofs.Faultless.{subject_well}
use Rattle.pearl_check_expr.proofs.laws.kinds_have_no_fault.Goals as goal

pub returns : goal.returns
returns c = subject_well
