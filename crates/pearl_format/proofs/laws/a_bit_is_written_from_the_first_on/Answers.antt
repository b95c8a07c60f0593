use Rattle.pearl_format.proofs.BitGroups.{writes_groups}
use Rattle.pearl_format.proofs.laws.a_bit_is_written_from_the_first_on.Goals as goal

pub returns : goal.returns
returns c = writes_groups
