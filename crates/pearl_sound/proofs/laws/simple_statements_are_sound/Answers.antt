use Rattle.pearl_sound.proofs.SimpleStatements.{statement_sound}
use Rattle.pearl_sound.proofs.laws.simple_statements_are_sound.Goals as goal

pub returns : goal.returns
returns c = statement_sound
