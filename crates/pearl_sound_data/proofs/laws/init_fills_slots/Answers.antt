use Rattle.pearl_sound_data.proofs.Filling.{init_fills}
use Rattle.pearl_sound_data.proofs.laws.init_fills_slots.Goals as goal

pub returns : goal.returns
returns c = init_fills
