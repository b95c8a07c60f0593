use Rattle.std.proofs.Common.{refl, rules}
use Rattle.pearl_object.proofs.instructions.read_on_variables.Goals as goal

pub returns-in_err-number-in-10 : goal.returns-in_err-number-in-10
returns-in_err-number-in-10 c = rw c.in-10.is (search rules)

pub returns-in_ok-number-in-11 : goal.returns-in_ok-number-in-11
returns-in_ok-number-in-11 c = rw (c.in-11.is, c.in_ok-number-in-11.ensures) refl
