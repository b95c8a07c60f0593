use Rattle.pearl_sound.proofs.OwnOpen.{own_open}
use Rattle.pearl_sound.proofs.laws.own_names_are_not_hidden.Goals as goal

pub returns : goal.returns
returns c = own_open
