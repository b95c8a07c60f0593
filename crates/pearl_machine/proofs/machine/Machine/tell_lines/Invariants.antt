use Rattle.std.proofs.Common.{◌≡◌, ℕ, ◌≤◌, List, ◌++◌, length}
use Rattle.std.specs.Prelude.{IfSome}
use Rattle.pearl_rules.specs.Core.{Report}
use Rattle.pearl_instructions.specs.Setups.{setup_of}
use Rattle.pearl_io.specs.Outside.{Takes}
use Rattle.pearl_script.specs.Lines.{lines_of}
use Rattle.pearl_machine.specs.Seen.{picked, retold}
use Rattle.pearl_machine.proofs.machine.Machine.tell_lines.Given as goal

-- the first lines are written
abbrev pub invariant-loop-line : goal.invariant-loop-line
invariant-loop-line g l = record {
  same : l.self ≡ retold l.initial.self l.self.state.core.told;
  goes : (done : List (ℕ × Report)) × (l.initial.self.state.core.told ≡ done ++ l.self.state.core.told)
      × Takes (g.K.Sink.taken l.initial.sink) (g.K.Sink.taken l.sink) (lines_of (setup_of l.initial.self.object) done);
  known : IfSome l.known (λ task. task ≡ picked l.self);
  later : g.K.Sink.faults l.initial.sink ≤ g.K.Sink.faults l.sink;
}

abbrev pub decreases-loop-line : goal.decreases-loop-line
decreases-loop-line g l = length l.self.state.core.told
