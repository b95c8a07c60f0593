use Rattle.std.proofs.Common.{arith}
use Rattle.std.proofs.Math.Seq.{take-add}
use Rattle.std.proofs.lemmas.List.{take_rest}
use Rattle.pearl_io.proofs.Pieces.{takes_more}
use Rattle.pearl_io.proofs.put.put_all.Goals as goal

pub loop-done-preserved : goal.loop-done-preserved
loop-done-preserved g c = record {
  within = omega (arith, c.in-Ok.ensures.bound);
  taken = rw take-add (takes_more _ _ _ _ _ c.loop-done.invariant.taken (rw take_rest at c.in-Ok.ensures.takes));
  later = omega arith;
}
