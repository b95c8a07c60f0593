use Rattle.pearl_meaning.proofs.StatementsUse.{loops_turn}
use Rattle.pearl_meaning.proofs.laws.loops_turn.Goals as goal

pub returns : goal.returns
returns c = loops_turn
