use Rattle.pearl_calls.proofs.Following.{agrees}
use Rattle.pearl_calls.proofs.laws.numberings_agree.Goals as goal

pub returns : goal.returns
returns c = agrees
