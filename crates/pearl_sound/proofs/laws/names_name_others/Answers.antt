use Rattle.pearl_sound.proofs.Apart.{numbers_apart}
use Rattle.pearl_sound.proofs.laws.names_name_others.Goals as goal

pub returns : goal.returns
returns c = numbers_apart
