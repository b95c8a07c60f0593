use Rattle.std.proofs.Common.{◌≤◌}
use Rattle.pearl_watch.proofs.Entering.{IsBetween}
use Rattle.pearl_watch.proofs.Fitting.{most_marks}
use Rattle.pearl_watch.proofs.monitor.Monitor.entry.Given as goal

-- some marks of the entry were made, and their lines were taken
abbrev pub invariant-marks : goal.invariant-marks
invariant-marks g l = record {
  so_far : IsBetween l.fn.self l.fn.entry l.steps l.self (g.K.Sink.taken l.fn.sink) (g.K.Sink.taken l.sink);
  later : g.K.Sink.faults l.fn.sink ≤ g.K.Sink.faults l.sink;
}

-- fewer marks are left
abbrev pub decreases-marks : goal.decreases-marks
decreases-marks g l = most_marks l.steps
