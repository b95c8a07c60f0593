use Rattle.pearl_sound.proofs.WholeStatements.{all_sound}
use Rattle.pearl_sound.proofs.laws.statements_are_sound.Goals as goal

pub returns : goal.returns
returns c = all_sound
