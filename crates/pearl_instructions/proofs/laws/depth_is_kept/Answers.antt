use Rattle.pearl_instructions.proofs.Begun.{used_within}
use Rattle.pearl_instructions.proofs.laws.depth_is_kept.Goals as goal

pub returns : goal.returns
returns c = used_within
