use Rattle.pearl_program.proofs.OneKind.{one_of_both}
use Rattle.pearl_program.proofs.laws.have_one_kind.Goals as goal

pub returns : goal.returns
returns c = one_of_both
