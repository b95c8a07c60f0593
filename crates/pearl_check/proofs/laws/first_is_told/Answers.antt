use Rattle.pearl_check.proofs.FirstFaults.{told}
use Rattle.pearl_check.proofs.laws.first_is_told.Goals as goal

pub returns : goal.returns
returns c = told
