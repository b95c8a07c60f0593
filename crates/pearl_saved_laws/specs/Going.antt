-- From where a run goes on that was saved, and where it comes to.
use Rattle.std.specs.Prelude.{◌≡◌, ◌≢◌, ℕ, ◌<◌, List, [], None, map, option_map}
use Rattle.pearl_rules.specs.declared.entry.Entry.{Entry}
use Rattle.pearl_rules.specs.Runs.{Machine, machine_after, machine_next, unsettled}
use Rattle.pearl_stack.specs.Frames.{Frame}
use Rattle.pearl_instructions.specs.declared.object.Parts.{Parts as Object}
use Rattle.pearl_instructions.specs.Engines.{engine}
use Rattle.pearl_records.specs.Records.{untold}
use Rattle.pearl_saved.specs.declared.saved.Saved.{Saved}
use Rattle.pearl_machine.specs.Resumed.{saved_of, resumed, unoffered}

-- a run over these entries that goes on from a state that was saved
abbrev pub going_on : Object → Saved → List Entry → Machine (List Frame)
going_on o s es = record (resumed o s).state { entries = es }

-- a state of a run as it comes back: the same core, which has told nothing, and the same stacks; no task has offered
-- its action, and no entry is left
abbrev pub come_back : Machine (List Frame) → Machine (List Frame)
come_back m = record { core = untold m.core; running = map (option_map unoffered) m.running; entries = [] }

-- A run that goes on over these entries from what is saved of a state comes to that state again after some steps. It has
-- told nothing, and these entries are to come. Before each step some task has still to offer its action, so none of them
-- is a mark.
pub record ComesBack (o : Object) (m : Machine (List Frame)) (more : List Entry) : Type 0 where
  pub steps : ℕ
  pub is : machine_after (engine o) (going_on o (saved_of m) more) steps
      ≡ record { core = untold m.core; running = m.running; entries = more }
  pub each : (i : ℕ) → i < steps → unsettled (machine_after (engine o) (going_on o (saved_of m) more) i) ≢ None

-- A run that goes on over these entries from a state is at its end after some steps: each active task has offered its
-- action, and no mark comes.
pub record ComesToItsEnd (o : Object) (s : Saved) (es : List Entry) : Type 0 where
  pub steps : ℕ
  pub settled : unsettled (machine_after (engine o) (going_on o s es) steps) ≡ None
  pub no_mark : machine_next (machine_after (engine o) (going_on o s es) steps) ≡ None
