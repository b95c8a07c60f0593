use Rattle.pearl_sound.proofs.SoundExpressions.{all_sound}
use Rattle.pearl_sound.proofs.laws.expressions_are_sound.Goals as goal

pub returns : goal.returns
returns c = all_sound
