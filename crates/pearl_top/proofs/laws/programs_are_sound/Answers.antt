use Rattle.pearl_top.proofs.SoundPrograms.{program_sound}
use Rattle.pearl_top.proofs.laws.programs_are_sound.Goals as goal

pub returns : goal.returns
returns c = program_sound
