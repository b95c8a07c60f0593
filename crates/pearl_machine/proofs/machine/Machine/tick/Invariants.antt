use Rattle.std.proofs.Common.{◌≡◌, ℕ, ◌+◌, ◌≤◌, List, [], ◌∷◌, None}
use Rattle.pearl_rules.specs.Core.{Report}
use Rattle.pearl_rules.specs.declared.entry.Entry.TheVariants.{Tick}
use Rattle.pearl_rules.specs.Runs.{unsettled}
use Rattle.pearl_instructions.specs.Setups.{setup_of}
use Rattle.pearl_io.specs.Outside.{Takes}
use Rattle.pearl_script.specs.Lines.{lines_of}
use Rattle.pearl_machine.specs.Seen.{Handles}
use Rattle.pearl_machine.proofs.machine.Machine.tick.Given as goal

-- the run has come to where the machine stands, and the sink has taken all that was told
abbrev pub invariant-loop-left : goal.invariant-loop-left
invariant-loop-left g l = record {
  object : l.self.object ≡ l.fn.self.object;
  settled : unsettled l.self.state ≡ None;
  taken : l.self.state.core.told ≡ [];
  moment : l.self.state.core.moment + l.left ≡ l.fn.self.state.core.moment + l.count;
  goes : (told : List (ℕ × Report)) × Handles l.fn.self (Tick l.count ∷ []) (Tick l.left ∷ []) l.self told
      × Takes (g.K.Sink.taken l.fn.sink) (g.K.Sink.taken l.sink) (lines_of (setup_of l.fn.self.object) told);
  later : g.K.Sink.faults l.fn.sink ≤ g.K.Sink.faults l.sink;
}

abbrev pub decreases-loop-left : goal.decreases-loop-left
decreases-loop-left g l = l.left
