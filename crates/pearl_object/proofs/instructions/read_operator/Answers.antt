use Rattle.std.proofs.Common.{refl}
use Rattle.pearl_object.proofs.instructions.read_operator.Goals as goal

pub returns-in-32 : goal.returns-in-32
returns-in-32 c = rw c.in-32.is refl
