use Rattle.pearl_sound.proofs.CompleteSenses.{senses_complete}
use Rattle.pearl_sound.proofs.laws.senses_are_complete.Goals as goal

pub returns : goal.returns
returns c = senses_complete
