use Rattle.pearl_names.proofs.Outers.{outer_earlier}
use Rattle.pearl_names.proofs.laws.outer_is_earlier.Goals as goal

pub returns : goal.returns
returns c = outer_earlier
