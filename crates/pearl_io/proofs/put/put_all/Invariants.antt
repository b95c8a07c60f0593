use Rattle.std.proofs.Common.{length, take, ◌-◌, ◌≤◌}
use Rattle.pearl_io.specs.Outside.{Takes}
use Rattle.pearl_io.proofs.put.put_all.Given as goal

-- what is done was taken, and no count fell
abbrev pub invariant-loop-done : goal.invariant-loop-done
invariant-loop-done g l = record {
  within : l.done ≤ length l.piece;
  taken : Takes (g.K.Sink.taken l.initial.sink) (g.K.Sink.taken l.sink) (take l.done l.piece);
  later : g.K.Sink.faults l.initial.sink ≤ g.K.Sink.faults l.sink;
}

abbrev pub decreases-loop-done : goal.decreases-loop-done
decreases-loop-done g l = length l.piece - l.done
