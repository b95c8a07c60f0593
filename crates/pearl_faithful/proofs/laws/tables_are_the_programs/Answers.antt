use Rattle.pearl_faithful.proofs.Setups.{same_setups}
use Rattle.pearl_faithful.proofs.laws.tables_are_the_programs.Goals as goal

pub returns : goal.returns
returns c = same_setups
