use Rattle.std.proofs.Common.{◌≡◌, List, [], None}
use Rattle.pearl_rules.specs.declared.entry.Entry.{Entry}
use Rattle.pearl_rules.specs.Runs.{unsettled}
use Rattle.pearl_machine.specs.Seen.{Handles}
use Rattle.pearl_machine.proofs.Entering.{owing}
use Rattle.pearl_machine.proofs.machine.Machine.settle.Given as goal

-- the run has come to where the machine stands
abbrev pub invariant-loop : goal.invariant-loop
invariant-loop l = record {
  object : l.self.object ≡ l.initial.self.object;
  core : l.self.state.core ≡ l.initial.self.state.core;
  told : l.self.state.core.told ≡ l.initial.self.state.core.told;
  moment : l.self.state.core.moment ≡ l.initial.self.state.core.moment;
  still : unsettled l.initial.self.state ≡ None → l.self ≡ l.initial.self;
  handles : (from : List Entry) → Handles l.initial.self from from l.self [];
}

-- fewer tasks are left that have offered nothing
abbrev pub decreases-loop : goal.decreases-loop
decreases-loop l = owing l.self.state.running
