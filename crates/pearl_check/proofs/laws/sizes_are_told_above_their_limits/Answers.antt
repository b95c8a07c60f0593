use Rattle.pearl_check.proofs.Limits.{tells_sizes}
use Rattle.pearl_check.proofs.laws.sizes_are_told_above_their_limits.Goals as goal

pub returns : goal.returns
returns c = tells_sizes
