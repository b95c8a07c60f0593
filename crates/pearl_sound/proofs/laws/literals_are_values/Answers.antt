use Rattle.pearl_sound.proofs.Literals.{literals}
use Rattle.pearl_sound.proofs.laws.literals_are_values.Goals as goal

pub returns : goal.returns
returns c = literals
