use Rattle.pearl_sound_data.proofs.Presets.{module_presets}
use Rattle.pearl_sound_data.proofs.laws.presets_are_small.Goals as goal

pub returns : goal.returns
returns c = λ tree devices procedures none. module_presets tree none
