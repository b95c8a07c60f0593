use Rattle.pearl_meaning.proofs.StatementsUse.{statements_use_up}
use Rattle.pearl_meaning.proofs.laws.statements_use_up.Goals as goal

pub returns : goal.returns
returns c = statements_use_up
