use Rattle.pearl_sound.proofs.KeptStatements.{statements_kept}
use Rattle.pearl_sound.proofs.laws.statements_are_kept.Goals as goal

pub returns : goal.returns
returns c = statements_kept
