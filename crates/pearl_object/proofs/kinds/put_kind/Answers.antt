use Rattle.std.proofs.Common.{refl, append_assoc}
use Rattle.pearl_object.specs.Kinds.{kind}
use Rattle.pearl_object.proofs.kinds.put_kind.Goals as goal

pub returns-in_ok-push-in-Chars-2 : goal.returns-in_ok-push-in-Chars-2
unfolding kind
returns-in_ok-push-in-Chars-2 c = rw (c.in-Chars.is, c.in_ok-push-in-Chars-2.ensures.items, c.in_ok-push-in-Chars.ensures.items, append_assoc) refl
