use Rattle.std.proofs.Common.{refl, append_assoc}
use Rattle.pearl_snap.specs.Plans.{end}
use Rattle.pearl_snap.proofs.plans.put_end.Goals as goal

pub returns-in_ok-put_number-in-During : goal.returns-in_ok-put_number-in-During
unfolding end
returns-in_ok-put_number-in-During c = rw (c.in-During.is, c.in_ok-put_number-in-During.ensures, c.in_ok-push-in-During.ensures.items) (simp append_assoc refl)
