use Rattle.std.proofs.Common.{inl, arith}
use Rattle.pearl_instructions.proofs.Offered.{letter_is_id}
use Rattle.pearl_back_tests.proofs.objects.letter.Goals as goal

pub returns : goal.returns
returns c = rw (c.push.ensures.items, c.new-name.ensures) (letter_is_id 84 (inl (omega arith, omega arith)))
