-- What contracts see of a monitor, and what it writes of its machine's run.
use Rattle.std.specs.Prelude.{◌≡◌, ◌≢◌, ℕ, zero, suc, ◌+◌, List, [], ◌++◌, Option, Some, None, length, slice_get}
use Rattle.pearl_rules.specs.declared.entry.Entry.{Entry}
use Rattle.pearl_rules.specs.Core.{Core, Report, value_at}
use Rattle.pearl_rules.specs.Runs.{flattened, machine_after, machine_run, machine_next, machine_start, marked, marked_after, unsettled}
use Rattle.pearl_instructions.specs.declared.object.Parts.{Parts as Object}
use Rattle.pearl_instructions.specs.Actions.{IsSlotNumber}
use Rattle.pearl_instructions.specs.Engines.{engine}
use Rattle.pearl_instructions.specs.Setups.{setup_of}
use Rattle.pearl_machine.specs.Seen.{Seen, at, retold, SameNext}
use Rattle.pearl_watch.specs.declared.watched.Watched.{Watched}
use Rattle.pearl_watch.specs.Changes.{shown, unless_same, held, slot_line, change_lines, core_lines, mark_cores, step_lines}
use Rattle.pearl_watch.specs.Lines.{Watching, begun}
use Rattle.pearl_watch.specs.Watched.{watched_by}

-- a machine, what is watched of it, and the marks so far, as they are written
pub record Monitored : Type 0 where
  pub machine : Seen
  pub watch : Watching
  pub marks : ℕ

-- an object's machine at the start of its run, of which these names are watched and nothing was told
abbrev pub started : Object → (names : List (List ℕ)) → Monitored
started o names = record {
  machine = retold (record { object = o; state = machine_start (engine o) (setup_of o) [] }) [];
  watch = begun o.leaves names;
  marks = 0;
}

-- the watched slots are slots of the object
abbrev pub AreSlots : Object → List Watched → Type 0
AreSlots o watched = (place : ℕ) (s : Watched) → slice_get watched place ≡ Some s → IsSlotNumber o s.slot

-- what was told last of each watched slot is what it held in this core; without one nothing was told
abbrev pub IsTold : Watching → Option Core → Type 0
IsTold w before = (place : ℕ) (s : Watched) → slice_get w.watched place ≡ Some s → slice_get w.given place ≡ Some (held before s.slot)

-- what holds of a monitor between its calls: each active task has offered its next action, and nothing is left to be told
pub record IsAtRest (m : Monitored) : Type 0 where
  pub settled : unsettled m.machine.state ≡ None
  pub taken : m.machine.state.core.told ≡ []
  pub slots : AreSlots m.machine.object m.watch.watched

-- WATCHED SLOTS, ONE BY ONE

-- the line of a watched slot, unless its value was told last
abbrev pub told_slot : Watching → (marks : ℕ) → Core → (place : ℕ) → Option Watched → List ℕ
told_slot w marks core place None = []
told_slot w marks core place (Some s) = unless_same (flattened (slice_get w.given place)) (value_at core.slots s.slot) (slot_line w.names marks core s)

abbrev pub place_line : Watching → (marks : ℕ) → Core → (place : ℕ) → List ℕ
place_line w marks core place = told_slot w marks core place (slice_get w.watched place)

-- the lines of the first so many
abbrev pub place_lines : Watching → (marks : ℕ) → Core → ℕ → List ℕ
place_lines w marks core zero = []
place_lines w marks core (suc n) = place_lines w marks core n ++ place_line w marks core n

-- the same slots are watched, and of this one its value in the core is the last one told; of the others nothing was told
pub record TellsPlace (old new : Watching) (core : Core) (place : ℕ) : Type 0 where
  pub names : new.names ≡ old.names
  pub watched : new.watched ≡ old.watched
  pub told : (s : Watched) → slice_get old.watched place ≡ Some s → slice_get new.given place ≡ Some (Some (value_at core.slots s.slot))
  pub others : (other : ℕ) → other ≢ place → slice_get new.given other ≡ slice_get old.given other

-- PARTS OF A RUN

-- the same slots of the same object are watched
pub record StaysOn (old new : Monitored) : Type 0 where
  pub object : new.machine.object ≡ old.machine.object
  pub names : new.watch.names ≡ old.watch.names
  pub watched : new.watch.watched ≡ old.watch.watched

-- The run goes, in some number of steps, from where the old machine stands, with this told before, to where the new one stands. The
-- same mark comes next of what is left as of the rest. So many of the steps are marks, and this is what is to be written of them.
pub record Shows (old : Monitored) (before : List (ℕ × Report)) (entries rest : List Entry) (new : Seen) (told : List (ℕ × Report))
    (made : ℕ) (text : List ℕ) : Type 0 where
  pub steps : ℕ
  pub left : List Entry
  pub is : machine_after (engine old.machine.object) (at old.machine before entries) steps ≡ at new (before ++ told) left
  pub same : SameNext new left rest
  pub marks : marked_after (engine old.machine.object) (at old.machine before entries) steps ≡ made
  pub lines : text ≡ step_lines old.watch.names old.watch.watched old.marks (engine old.machine.object) (at old.machine before entries) steps

-- Whatever was told before, and whatever comes behind: where these entries come next, the monitor goes over them up to those that are
-- left, and this is what is to be written of that.
pub record Watches (old : Monitored) (from left : List Entry) (new : Monitored) (text : List ℕ) : Type 0 where
  pub stays : StaysOn old new
  pub told : List (ℕ × Report)
  pub made : ℕ
  pub counted : shown new.marks ≡ shown (old.marks + made)
  pub shows : (before : List (ℕ × Report)) (entries rest : List Entry) → SameNext old.machine entries (from ++ rest) →
      Shows old before entries (left ++ rest) new.machine told made text

-- THE WHOLE RUN

-- what each of the named leaves' slots holds at the start
abbrev pub first_lines : Object → (names : List (List ℕ)) → List ℕ
first_lines o names = change_lines names (watched_by o.leaves names (length names)) 0 None (started o names).machine.state.core

-- The run of an object over some entries is at its end after so many marks, at this moment. This is what is to be written up to there:
-- for each core after 0, 1, 2 .. marks the lines of the named leaves' slots that differ from what they were in the core before.
pub record IsWatchText (o : Object) (names : List (List ℕ)) (es : List Entry) (text : List ℕ) (marks moment : ℕ) : Type 0 where
  pub steps : ℕ
  pub settled : unsettled (machine_run (engine o) (setup_of o) es steps) ≡ None
  pub no_mark : machine_next (machine_run (engine o) (setup_of o) es steps) ≡ None
  pub lines : text ≡ core_lines names (watched_by o.leaves names (length names)) 0 None
      (mark_cores (engine o) (machine_start (engine o) (setup_of o) es) steps)
  pub counted : marks ≡ marked (engine o) (setup_of o) es steps
  pub now : moment ≡ (machine_run (engine o) (setup_of o) es steps).core.moment

-- Nothing is written of no entry.
abbrev pub WatchesNothing : Type 0
WatchesNothing = (m : Monitored) (from : List Entry) → Watches m from from m []

-- What is written of entries and then of those that are left is written of all, one after the other.
abbrev pub WatchesInTurn : Type 0
WatchesInTurn = (a b c : Monitored) (from mid left : List Entry) (text more : List ℕ) → Watches a from mid b text →
    Watches b mid left c more → Watches a from left c (text ++ more)

-- Entries behind others are watched behind them.
abbrev pub WatchesBehind : Type 0
WatchesBehind = (a b : Monitored) (from left more : List Entry) (text : List ℕ) → Watches a from left b text → Watches a (from ++ more) (left ++ more) b text

-- What is written of all entries from the start, behind what the slots hold there, is what is to be written of the run, where each
-- active task has offered its next action at last. The marks are those that are counted.
abbrev pub ShowsTheRun : Type 0
ShowsTheRun = (o : Object) (names : List (List ℕ)) (es : List Entry) (after : Monitored) (text : List ℕ) → Watches (started o names) es [] after text →
    unsettled after.machine.state ≡ None →
    (marks : ℕ) × IsWatchText o names es (first_lines o names ++ text) marks after.machine.state.core.moment × (shown after.marks ≡ shown marks)
