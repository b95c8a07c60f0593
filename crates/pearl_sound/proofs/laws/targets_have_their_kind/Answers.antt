use Rattle.pearl_sound.proofs.Shapes.{target_kinds}
use Rattle.pearl_sound.proofs.laws.targets_have_their_kind.Goals as goal

pub returns : goal.returns
returns c = target_kinds
