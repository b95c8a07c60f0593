use Rattle.pearl_sound_data.proofs.Formats.{module_formats}
use Rattle.pearl_sound_data.proofs.laws.formats_are_sound.Goals as goal

pub returns : goal.returns
returns c = λ tree devices procedures none. module_formats tree none
