use Rattle.pearl_top.proofs.OneProgram.{one_meaning}
use Rattle.pearl_top.proofs.laws.one_meaning.Goals as goal

pub returns : goal.returns
returns c = one_meaning
