use Rattle.std.proofs.Common.{refl, rules}
use Rattle.pearl_object.proofs.instructions.read_on_devices.Goals as goal

pub returns-in_err-number-in-67 : goal.returns-in_err-number-in-67
returns-in_err-number-in-67 c = rw c.in-67.is (search rules)

pub returns-in_ok-number-in-68 : goal.returns-in_ok-number-in-68
returns-in_ok-number-in-68 c = rw (c.in-68.is, c.in_ok-number-in-68.ensures) refl
