use Rattle.std.proofs.Common.{refl}
use Rattle.pearl_object.specs.Operands.{start}
use Rattle.pearl_object.proofs.operands.put_start.Goals as goal

pub returns-in_ok-push-in-After : goal.returns-in_ok-push-in-After
unfolding start
returns-in_ok-push-in-After c = rw (c.in-After.is, c.in_ok-push-in-After.ensures.items) refl
