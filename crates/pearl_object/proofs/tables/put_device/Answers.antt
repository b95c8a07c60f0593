use Rattle.std.proofs.Common.{refl, append_assoc}
use Rattle.pearl_object.specs.Tables.{device}
use Rattle.pearl_object.proofs.Spellings.{direction_bytes}
use Rattle.pearl_object.proofs.tables.put_device.Goals as goal

pub returns-in_ok-push-in-Terminal-3 : goal.returns-in_ok-push-in-Terminal-3
unfolding device
returns-in_ok-push-in-Terminal-3 c = rw (c.in-Terminal.is, direction_bytes c.in-Terminal.direction, c.in_ok-push-in-Terminal-3.ensures.items, c.in_ok-push-in-Terminal-2.ensures.items, c.in_ok-push-in-Terminal.ensures.items, c.direction_tag.ensures) (simp append_assoc refl)

pub returns-in_ok-put_kind-in-Input : goal.returns-in_ok-put_kind-in-Input
unfolding device
returns-in_ok-put_kind-in-Input c = rw (c.in-Input.is, c.in_ok-put_kind-in-Input.ensures, c.in_ok-push-in-Input-2.ensures.items, c.in_ok-push-in-Input.ensures.items) (simp append_assoc refl)
