use Rattle.std.proofs.Common.{refl, rules}
use Rattle.pearl_object.proofs.instructions.read_on_flow.Goals as goal

pub returns-in_err-number-in-20 : goal.returns-in_err-number-in-20
returns-in_err-number-in-20 c = rw c.in-20.is (search rules)

pub returns-in_ok-new-in-21 : goal.returns-in_ok-new-in-21
returns-in_ok-new-in-21 c = rw (c.in-21.is, c.in_ok-targets-in-21.ensures, c.in_ok-new-in-21.ensures) refl
