use Rattle.pearl_sound.proofs.SoundExpressions.{call_sound}
use Rattle.pearl_sound.proofs.laws.calls_are_sound.Goals as goal

pub returns : goal.returns
returns c = call_sound
