use Rattle.std.proofs.Common.{refl}
use Rattle.pearl_object.specs.Operands.{once}
use Rattle.pearl_object.proofs.operands.put_once.Goals as goal

pub returns-in_ok-push-in-After : goal.returns-in_ok-push-in-After
unfolding once
returns-in_ok-push-in-After c = rw (c.in-After.is, c.in_ok-push-in-After.ensures.items) refl
