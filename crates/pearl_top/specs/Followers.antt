-- What goes over a journal: an object's machine, and a monitor of its variables.
use Rattle.std.specs.Prelude.{◌≡◌, ℕ, List, [], ◌++◌, None, Some}
use Rattle.pearl_rules.specs.declared.entry.Entry.{Entry}
use Rattle.pearl_rules.specs.Core.{Report}
use Rattle.pearl_rules.specs.Pick.{states}
use Rattle.pearl_rules.specs.Runs.{machine_offers, unsettled}
use Rattle.pearl_instructions.specs.Setups.{setup_of}
use Rattle.pearl_machine.specs.Seen.{Seen, Handles}
use Rattle.pearl_script.specs.Lines.{close_line, lines_of}
use Rattle.pearl_watch.specs.Changes.{change_lines, last_line}
use Rattle.pearl_watch.specs.Lines.{begun}
use Rattle.pearl_watch.specs.Monitored.{IsTold, Monitored, Watches}
use Rattle.pearl_watch.specs.Monitored as monitored
use Rattle.pearl_top.specs.Going.{Going}
use Rattle.pearl_top.specs.Ready.{IsReady, RunsByRules}
use Rattle.pearl_top.specs.Runners.{by_code}
use Rattle.pearl_top.specs.WatchDue.{by_watch}

-- A MACHINE

-- the machine goes over these entries up to those that are left, whatever comes behind them, and this is what it tells on the way
pub record Tells (old : Seen) (from left : List Entry) (new : Seen) (text : List ℕ) : Type 0 where
  pub told : List (ℕ × Report)
  pub object : new.object ≡ old.object
  pub handles : Handles old from left new told
  pub lines : text ≡ lines_of (setup_of old.object) told

-- every active task goes on to its next action; how each stands then, and the closing line
pub record TellsLast (seen : Seen) (text : List ℕ) : Type 0 where
  pub last : Seen
  pub handles : (from : List Entry) → Handles seen from from last []
  pub settled : unsettled last.state ≡ None
  pub lines : text ≡ lines_of (setup_of seen.object) (states last.state.core (machine_offers last.state)) ++ close_line last.state.core.moment

abbrev pub machine_going : Going Seen
machine_going = record {
  tables = λ seen. setup_of seen.object;
  moment = λ seen. seen.state.core.moment;
  rests = λ seen. seen.state.core.told ≡ [];
  writes = Tells;
  starts = IsReady;
  opening = λ seen. lines_of (setup_of seen.object) seen.state.core.told;
  closes = TellsLast;
  runner = λ seen. by_code seen.object;
}

-- A MONITOR

-- each active task has offered its next action, and of each watched slot what it holds was told last
pub record IsStill (m : Monitored) : Type 0 where
  pub settled : unsettled m.machine.state ≡ None
  pub told : IsTold m.watch (Some m.machine.state.core)

-- it stands at the start of a run of its object, of which nothing was told
pub record IsWatching (m : Monitored) : Type 0 where
  pub rules : RunsByRules m.machine.object
  pub settled : unsettled m.machine.state ≡ None
  pub watch : m.watch ≡ begun m.machine.object.leaves m.watch.names
  pub core : m.machine.state.core ≡ (monitored.started m.machine.object m.watch.names).machine.state.core
  pub marks : m.marks ≡ 0
  pub starts : (from : List Entry) → Watches (monitored.started m.machine.object m.watch.names) from from m []

abbrev pub monitor_going : Going Monitored
monitor_going = record {
  tables = λ m. setup_of m.machine.object;
  moment = λ m. m.machine.state.core.moment;
  rests = IsStill;
  writes = Watches;
  starts = IsWatching;
  opening = λ m. change_lines m.watch.names m.watch.watched m.marks None m.machine.state.core;
  closes = λ m text. text ≡ last_line m.marks m.machine.state.core.moment;
  runner = λ m. by_watch m.watch.names m.machine.object;
}
