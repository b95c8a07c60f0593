use Rattle.pearl_sound.proofs.Going.{all_go}
use Rattle.pearl_sound.proofs.laws.statements_go_past.Goals as goal

pub returns : goal.returns
returns c = all_go
