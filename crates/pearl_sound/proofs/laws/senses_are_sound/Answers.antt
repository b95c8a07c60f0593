use Rattle.pearl_sound.proofs.SoundForms.{senses_sound}
use Rattle.pearl_sound.proofs.laws.senses_are_sound.Goals as goal

pub returns : goal.returns
returns c = senses_sound
