use Rattle.std.proofs.Common.{refl, append_assoc}
use Rattle.pearl_object.proofs.Spellings.{item_bytes}
use Rattle.pearl_object.proofs.tables.put_item.Goals as goal

pub returns : goal.returns
returns c = rw (item_bytes c.args.value, c.in_ok-push-2.ensures.items, c.in_ok-push.ensures.items, c.item_tag.ensures, append_assoc) refl
