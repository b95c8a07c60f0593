use Rattle.std.proofs.Common.{arith}
use Rattle.pearl_format.proofs.Digits.{digit_more}
use Rattle.pearl_format.proofs.field.bits_text.Goals as goal

pub loop-left-preserved : goal.loop-left-preserved
loop-left-preserved c =
    record {
      text = rw (c.push.ensures.items, c.glyph.ensures, c.digit_at.ensures.value)
          (digit_more c.args.group c.loop-left.left _ c.loop-left.text.items _ (omega (arith, c.loop-left-test.true)) c.loop-left.invariant.text);
      long = omega (arith, c.push.ensures.len, c.loop-left.invariant.long, c.loop-left-test.true);
    }
