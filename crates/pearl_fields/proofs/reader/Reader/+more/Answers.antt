use Rattle.std.proofs.Common.{arith, ◌-◌}
use Rattle.pearl_fields.proofs.Numbers.{room_some, room_step, room_grows}
use Rattle.pearl_fields.proofs.reader.Reader.+more.Goals as goal

pub returns-then-byte-lt128-clause-below : goal.returns-then-byte-lt128-clause-below
returns-then-byte-lt128-clause-below t c = omega (arith, c.from.ensures, c.if-byte-lt128.true, c.if-k-eq0.false, room_step c.args.k c.if-k-eq0.false, room_some (c.args.k - 1))

pub overflow_mul-result : goal.overflow_mul-result
overflow_mul-result t c = omega (arith, c.in_ok-high-in-len1-up.ensures.below, room_step c.args.k c.if-k-eq0.false, room_grows c.args.k c.requires)

pub overflow_add-result : goal.overflow_add-result
overflow_add-result t c = omega (arith, c.in_ok-high-in-len1-up.ensures.below, room_step c.args.k c.if-k-eq0.false, room_grows c.args.k c.requires, c.from-in-len1-up.ensures)
