use Rattle.std.proofs.Common.{arith}
use Rattle.pearl_instructions.specs.Opcodes.{SomeFixed}
use Rattle.pearl_verify.proofs.Asking.{times_more}
use Rattle.pearl_verify.proofs.operands.are_fixed.Goals as goal

pub loop-below-preserved : goal.loop-below-preserved
loop-below-preserved c = (
  times_more SomeFixed c.args.kinds.now c.args.count c.loop-below.below c.loop-below-test.true c.loop-below.invariant.0 c.if-not-is_fixed_at.ensures,
  omega (arith, c.loop-below-test.true),
)
