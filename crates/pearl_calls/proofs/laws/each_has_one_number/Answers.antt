use Rattle.pearl_calls.proofs.Following.{each_once, only_procedures}
use Rattle.pearl_calls.proofs.laws.each_has_one_number.Goals as goal

pub returns : goal.returns
returns c = record { procedure_once = each_once; all_procedures = only_procedures }
