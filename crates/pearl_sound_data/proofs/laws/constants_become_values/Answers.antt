use Rattle.pearl_sound_data.proofs.FirstValues.{constant_value}
use Rattle.pearl_sound_data.proofs.laws.constants_become_values.Goals as goal

pub returns : goal.returns
returns c = constant_value
