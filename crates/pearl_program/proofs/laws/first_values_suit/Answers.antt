use Rattle.pearl_program.proofs.FirstValues.{first_suit}
use Rattle.pearl_program.proofs.laws.first_values_suit.Goals as goal

pub returns : goal.returns
returns c = first_suit
