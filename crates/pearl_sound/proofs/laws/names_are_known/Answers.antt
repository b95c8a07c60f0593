use Rattle.pearl_sound.proofs.NamesKnown.{all_names_known}
use Rattle.pearl_sound.proofs.laws.names_are_known.Goals as goal

pub returns : goal.returns
returns c = all_names_known
