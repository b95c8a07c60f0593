use Rattle.std.proofs.Common.{arith}
use Rattle.pearl_stack.proofs.Offered.{numbers_frames}
use Rattle.pearl_back_tests.proofs.stacks.shows.Goals as goal

pub is_frame-requires : goal.is_frame-requires
is_frame-requires c = (numbers_frames c.args.stack.now.frames c.loop-f.f).1 (omega (arith, c.frames-f-end.ensures, c.loop-f-test.true))
