use Rattle.std.proofs.Common.{refl, rules}
use Rattle.pearl_object.proofs.instructions.read_on_tasks.Goals as goal

pub returns-in_err-semaphores-in-54 : goal.returns-in_err-semaphores-in-54
returns-in_err-semaphores-in-54 c = rw c.in-54.is (search rules)

pub returns-in_ok-new-in-55 : goal.returns-in_ok-new-in-55
returns-in_ok-new-in-55 c = rw (c.in-55.is, c.in_ok-semaphores-in-55.ensures, c.in_ok-new-in-55.ensures) refl
