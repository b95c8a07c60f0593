use Rattle.pearl_sound.proofs.LawfulLiterals.{statements_literals}
use Rattle.pearl_sound.proofs.laws.statements_have_literals.Goals as goal

pub returns : goal.returns
returns c = statements_literals
