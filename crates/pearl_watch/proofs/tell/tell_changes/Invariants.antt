use Rattle.std.proofs.Common.{◌≡◌, ◌≤◌, length}
use Rattle.pearl_watch.proofs.Telling.{SoFar}
use Rattle.pearl_watch.proofs.tell.tell_changes.Given as goal

-- the lines of the first slots were taken
abbrev pub invariant-loop-place : goal.invariant-loop-place
invariant-loop-place g l = record {
  so_far : SoFar l.fn.watch l.watch l.marks l.machine.state.core l.place (g.K.Sink.taken l.fn.sink) (g.K.Sink.taken l.sink);
  count : l.count ≡ length l.fn.watch.watched;
  within : l.place ≤ l.count;
  later : g.K.Sink.faults l.fn.sink ≤ g.K.Sink.faults l.sink;
}
