use Rattle.std.proofs.Common.{refl}
use Rattle.pearl_object.specs.Operands.{repetition}
use Rattle.pearl_object.proofs.operands.put_repeat.Goals as goal

pub returns-in_ok-push-in-Until : goal.returns-in_ok-push-in-Until
unfolding repetition
returns-in_ok-push-in-Until c = rw (c.in-Until.is, c.in_ok-push-in-Until.ensures.items) refl
