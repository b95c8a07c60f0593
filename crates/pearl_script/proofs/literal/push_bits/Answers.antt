use Rattle.std.proofs.Common.{arith}
use Rattle.pearl_script.proofs.Bits.{bit_more}
use Rattle.pearl_script.proofs.literal.push_bits.Goals as goal

pub overflow_shr-bit : goal.overflow_shr-bit
overflow_shr-bit c = omega (arith, c.loop-left.invariant.few, c.requires.few, c.loop-left-test.true)

pub loop-left-preserved : goal.loop-left-preserved
loop-left-preserved c = record {
  text = rw (c.push.ensures.items)
      (bit_more c.loop-left.left c.args.value c.loop-left.into.items _ (omega (arith, c.loop-left-test.true)) c.loop-left.invariant.text);
  few = omega (arith, c.loop-left.invariant.few);
  long = omega (arith, c.push.ensures.len, c.loop-left.invariant.long, c.loop-left-test.true);
}
