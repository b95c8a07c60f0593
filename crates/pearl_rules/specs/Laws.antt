-- What the laws say of turns, of effects and of runs.
use Rattle.std.specs.Prelude.{◌≡◌, ◌≢◌, ℕ, zero, suc, ◌+◌, ◌-◌, ◌^◌, ◌<◌, ◌≤◌, List, [], ◌∷◌, ◌++◌, Bool, true, false, Option, Some, None, IsTrue, Contains, map, length, slice_get}
use Rattle.pearl_rules.specs.declared.action.Action.{Action}
use Rattle.pearl_rules.specs.declared.action.Action.TheVariants as action
use Rattle.pearl_rules.specs.declared.action.Answer.{Answer}
use Rattle.pearl_rules.specs.declared.action.Answer.TheVariants.{Nothing}
use Rattle.pearl_rules.specs.declared.event.Event.{Event}
use Rattle.pearl_rules.specs.declared.event.Event.TheVariants as event
use Rattle.pearl_rules.specs.declared.row.Mode.{Mode}
use Rattle.pearl_rules.specs.declared.row.Mode.TheVariants.{Dormant, Active}
use Rattle.pearl_rules.specs.declared.entry.Entry.{Entry}
use Rattle.pearl_rules.specs.declared.entry.Entry.TheVariants.{Clock, Irpt, Chars, Line, Value}
use Rattle.pearl_rules.specs.declared.row.Kept.{Kept}
use Rattle.pearl_rules.specs.declared.row.Kept.TheVariants as kept
use Rattle.pearl_rules.specs.declared.row.TaskRow.{TaskRow}
use Rattle.pearl_rules.specs.declared.setup.Setup.{Setup}
use Rattle.pearl_rules.specs.declared.setup.TaskEntry.{TaskEntry}
use Rattle.pearl_rules.specs.Core.{Core, Report, Happened, row_of, mode_of, is_active, is_active_mode, declared_of, told_before}
use Rattle.pearl_rules.specs.Counts.{count_at}
use Rattle.pearl_rules.specs.Plans.{continuation_of, activation_of, priorities, kept_of, millisecond}
use Rattle.pearl_rules.specs.Devices.{items_of, bytes_at, values_at}
use Rattle.pearl_rules.specs.Scan.{Scanned, Got, scan}
use Rattle.pearl_rules.specs.Effect.{Reply, Hears, Ends, Effect, answering}
use Rattle.pearl_rules.specs.Pick.{Offered, possible_of, is_eligible_by, priority_of}
use Rattle.pearl_rules.specs.Slots.{HasKinds, HasCounts, HasUrgencies, HasPlans, HasEnds, HasTimes, HasLast}
use Rattle.pearl_rules.specs.Entries.{last_moment_of_all}
use Rattle.pearl_rules.specs.Runs.{dropped, kept_at, refreshed, Supplier, Source, Engine, Machine, source_run, source_next, source_offers, machine_run, machine_offers, machine_next, marked, unsettled, told_at_end}

-- TURNS AND EFFECTS

-- a task that is eligible, where no eligible task has a smaller priority number
pub record IsFirstInRankBy (core : Core) (possible : ℕ → Bool) (t : ℕ) : Type 0 where
  pub eligible : IsTrue (is_eligible_by core possible t)
  pub urgent : (u : ℕ) → IsTrue (is_eligible_by core possible u) → priority_of core t ≤ priority_of core u

abbrev pub IsFirstInRank : Core → Offered → ℕ → Type 0
IsFirstInRank core offers t = IsFirstInRankBy core (possible_of core offers) t

-- the same effect, with this told before
abbrev pub effect_told_before : List (ℕ × Report) → Effect → Effect
effect_told_before before done = record done { core = told_before before done.core }

-- a task whose life is over is dormant, or active anew, and then it isn't suspended
abbrev pub IsOver : Mode → Type 0
IsOver Dormant = Unit {0}
IsOver (Active priority suspended) = suspended ≡ false

-- What an effect tells of ends: an active task that becomes dormant is among those that ended, and one that isn't among those stays
-- active. Those that ended are dormant, or active anew. The task that acted isn't among them where it hears an answer, and stays
-- active; where it ends, it is.
pub record TellsEnds (core : Core) (own : ℕ) (done : Effect) : Type 0 where
  pub ended : (t : ℕ) → IsTrue (is_active core t) → is_active done.core t ≡ false → Contains done.ended t
  pub others : (t : ℕ) → (Contains done.ended t → ⊥) → IsTrue (is_active core t) → IsTrue (is_active done.core t)
  pub over : (t : ℕ) → Contains done.ended t → IsOver (mode_of done.core t)
  pub hears : (answer : Answer) → done.reply ≡ Hears answer → IsTrue (is_active core own) → IsTrue (is_active done.core own)
  pub goes_on : (answer : Answer) → done.reply ≡ Hears answer → Contains done.ended own → ⊥
  pub ends : done.reply ≡ Ends → IsTrue (is_active core own) → Contains done.ended own

-- how a task stands behind its end, what it keeps and what is told then, where this is the oldest start that it kept, with those
-- behind it: it is started with this one; else it is dormant
abbrev pub mode_behind : Option (ℕ × Kept) → Mode
mode_behind None = Dormant
mode_behind (Some (first, others)) = Active first false

abbrev pub kept_behind : Option (ℕ × Kept) → Kept
kept_behind None = kept.Nothing
kept_behind (Some (first, others)) = others

abbrev pub events_behind : (t : ℕ) → Option (ℕ × Kept) → List Event
events_behind t None = []
events_behind t (Some (first, others)) = event.Start t first ∷ []

abbrev pub row_behind : Option (ℕ × Kept) → TaskRow → TaskRow
row_behind next row = record row { mode = mode_behind next; kept = kept_behind next; continuation = None }

-- Each task that an effect ends is dormant behind it where it kept no start; else it is active anew, with the oldest priority that
-- it kept, and keeps the others. The task that acted is dormant where it hears no answer and kept none.
pub record ServesAtEnds (core : Core) (own : ℕ) (done : Effect) : Type 0 where
  pub dormant : (t : ℕ) → Contains done.ended t → kept_of core t ≡ kept.Nothing → mode_of done.core t ≡ Dormant
  pub serves : (t first : ℕ) (others : List ℕ) → Contains done.ended t → priorities (kept_of core t) ≡ first ∷ others →
      (mode_of done.core t ≡ Active first false) × (priorities (kept_of done.core t) ≡ others)
  pub ends : done.reply ≡ Ends → kept_of core own ≡ kept.Nothing → mode_of done.core own ≡ Dormant

-- these events, each at this moment
abbrev pub happened_at : ℕ → List Event → List (ℕ × Report)
happened_at moment [] = []
happened_at moment (event ∷ events) = (moment, Happened event) ∷ happened_at moment events

-- an effect sets how one task stands, tells these events, and has this reply; no other task changes, and nothing else but who acted last
pub record ChangesTask (core : Core) (own t : ℕ) (mode : Mode) (events : List Event) (reply : Reply) (done : Effect) : Type 0 where
  pub stands : mode_of done.core t ≡ mode
  pub others : (u : ℕ) → u ≢ t → row_of done.core u ≡ row_of core u
  pub rest : done.core ≡ record core { last = Some own; tasks = done.core.tasks; told = core.told ++ happened_at core.moment events }
  pub replies : done.reply ≡ reply

-- what is told of a task in this mode behind its end: nothing where it is dormant, and its start where it is active anew
abbrev pub IsToldBehind : (t : ℕ) → Mode → List Event → Type 0
IsToldBehind t Dormant events = events ≡ []
IsToldBehind t (Active priority suspended) events = (suspended ≡ false) × (events ≡ event.Start t priority ∷ [])

-- An effect ends task t, and this event tells it first. Then t is dormant, or active anew, and what was heard and done before is
-- gone. It goes on by no plan, the plan by which it is started stays, and nothing else changes.
pub record EndsTask (core : Core) (own t : ℕ) (told : Event) (reply : Reply) (done : Effect) : Type 0 where
  pub behind : List Event
  pub told_behind : IsToldBehind t (mode_of done.core t) behind
  pub changes : ChangesTask core own t (mode_of done.core t) (told ∷ behind) reply done
  pub goes_on : continuation_of done.core t ≡ None
  pub starts : activation_of done.core t ≡ activation_of core t
  pub ended : done.ended ≡ t ∷ []

-- what is told of a start of an active task
abbrev pub IsLate : (t : ℕ) → Event → Type 0
IsLate t (event.Kept u number) = u ≡ t
IsLate t (event.Overrun u) = u ≡ t
IsLate t other = ⊥

-- a start of an active task: it stays as it is, and one event tells what becomes of the start
pub record StartsLate (core : Core) (own t : ℕ) (mode : Mode) (done : Effect) : Type 0 where
  pub told : Event
  pub late : IsLate t told
  pub changes : ChangesTask core own t mode (told ∷ []) (Hears Nothing) done

-- a start of an active task that keeps fewer than three: it keeps this one as its last, and their number is told
pub record KeepsOne (core : Core) (own t priority : ℕ) (mode : Mode) (done : Effect) : Type 0 where
  pub kept : priorities (kept_of done.core t) ≡ priorities (kept_of core t) ++ priority ∷ []
  pub changes : ChangesTask core own t mode (event.Kept t (length (priorities (kept_of core t)) + 1) ∷ []) (Hears Nothing) done

-- a task ends that kept these: its end is told and then its start with the first, and it keeps the others
pub record ServesFirst (core : Core) (own t : ℕ) (told : Event) (reply : Reply) (first : ℕ) (others : List ℕ) (done : Effect) : Type 0 where
  pub kept : priorities (kept_of done.core t) ≡ others
  pub changes : ChangesTask core own t (Active first false) (told ∷ event.Start t first ∷ []) reply done

-- all fields are there and good
abbrev pub IsGot : Scanned → Type 0
IsGot (Got used values) = Unit {0}
IsGot other = ⊥

-- the action ends the task that acts
abbrev pub EndsItself : Core → (own : ℕ) → Action → Type 0
EndsItself core own action.End = Unit {0}
EndsItself core own (action.Trap trap) = Unit {0}
EndsItself core own (action.Terminate t) = t ≡ own
EndsItself core own (action.Release list) = (s : ℕ) × Contains list.items s × (2 ^ 31 - 1 ≤ count_at core.counts s)
EndsItself core own (action.Get device format kinds) = IsGot (scan (items_of core format) kinds.items (bytes_at core device)) → ⊥
EndsItself core own (action.Take device) = values_at core device ≡ []
EndsItself core own other = ⊥

-- What is kept of the task of this row after some tasks ended: nothing of a dormant one; an active one that is among those or of
-- which nothing was kept begins afresh; of any other active one the same is kept as before.
pub record BeginsAfresh {X : Type 0} (fresh : ℕ → X) (rows : List TaskRow) (ended : List ℕ) (before : List (Option X)) (t : ℕ) (row : TaskRow) : Type 0 where
  pub dormant : is_active_mode row.mode ≡ false → kept_at (refreshed fresh 0 rows (dropped ended before)) t ≡ None
  pub again : IsTrue (is_active_mode row.mode) → Contains ended t → kept_at (refreshed fresh 0 rows (dropped ended before)) t ≡ Some (fresh t)
  pub anew : IsTrue (is_active_mode row.mode) → kept_at before t ≡ None →
      kept_at (refreshed fresh 0 rows (dropped ended before)) t ≡ Some (fresh t)
  pub same : IsTrue (is_active_mode row.mode) → (Contains ended t → ⊥) → (x : X) → kept_at before t ≡ Some x →
      kept_at (refreshed fresh 0 rows (dropped ended before)) t ≡ Some x

-- An effect changes exactly the counts of these semaphores, each as is said of the count before and the count after; nothing else
-- changes, and the task goes on with this answer.
pub record ChangesCounts (core : Core) (own : ℕ) (semaphores : List ℕ) (Changes : (before after : ℕ) → Type 0) (answer : Answer) (done : Effect) : Type 0 where
  pub named : (s : ℕ) → Contains semaphores s → Changes (count_at core.counts s) (count_at done.core.counts s)
  pub others : (s : ℕ) → (Contains semaphores s → ⊥) → count_at done.core.counts s ≡ count_at core.counts s
  pub rest : done ≡ answering (record core { last = Some own; counts = done.core.counts }) answer

-- RUNS

-- an entry that sets the clock, or brings an interrupt, bytes or a value
abbrev pub ComesIn : Entry → Type 0
ComesIn (Clock time) = Unit {0}
ComesIn (Irpt device) = Unit {0}
ComesIn (Chars device text) = Unit {0}
ComesIn (Line device text) = Unit {0}
ComesIn (Value device x) = Unit {0}
ComesIn entry = ⊥

-- the core after n milliseconds
abbrev pub passed : ℕ → Core → Core
passed zero core = core
passed (suc n) core = millisecond (passed n core)

-- the machine's run is at its end after n steps: nothing is unsettled and no mark comes
pub record HasEnded {S : Type 0} (engine : Engine S) (setup : Setup) (es : List Entry) (n : ℕ) : Type 0 where
  pub settled : unsettled (machine_run engine setup es n) ≡ None
  pub no_mark : machine_next (machine_run engine setup es n) ≡ None

-- it comes there within so many steps, of which m are marks
pub record EndsSoon {S : Type 0} (engine : Engine S) (setup : Setup) (es : List Entry) (m room : ℕ) : Type 0 where
  pub at : ℕ
  pub within : at ≤ room
  pub made : marked engine setup es at ≡ m
  pub has_ended : HasEnded engine setup es at

-- where the machine's run is at its end, the source's is after the same marks, and both tell the same, at the same moment
pub record EndsAlike (offer : Supplier) {S : Type 0} (engine : Engine S) (setup : Setup) (es : List Entry) (n : ℕ) : Type 0 where
  pub ended : source_next offer (source_run offer setup es (marked engine setup es n)) ≡ None
  pub same_told : told_at_end (machine_run engine setup es n).core (machine_offers (machine_run engine setup es n))
      ≡ told_at_end (source_run offer setup es (marked engine setup es n)).core (source_offers offer (source_run offer setup es (marked engine setup es n)))
  pub same_moment : (machine_run engine setup es n).core.moment ≡ (source_run offer setup es (marked engine setup es n)).core.moment

-- the source's run comes to an end, and there all that was told after m marks has been told, with what came later after it
pub record EndsTelling (offer : Supplier) (setup : Setup) (es : List Entry) (m : ℕ) : Type 0 where
  pub last : ℕ
  pub no_mark : source_next offer (source_run offer setup es last) ≡ None
  pub more : List (ℕ × Report)
  pub told : (source_run offer setup es last).core.told ≡ (source_run offer setup es m).core.told ++ more

-- each of the first m marks of the source's run comes
abbrev pub Comes : Supplier → Setup → List Entry → ℕ → Type 0
Comes offer setup es m = (k : ℕ) → k < m → source_next offer (source_run offer setup es k) ≢ None

-- the same state with more entries to come
abbrev pub with_more : Source → List Entry → Source
with_more s more = record s { entries = s.entries ++ more }

abbrev pub machine_with_more : {S : Type 0} → Machine S → List Entry → Machine S
machine_with_more m more = record m { entries = m.entries ++ more }

-- the machine's run isn't at its end before step n
abbrev pub IsBeforeEnd : {S : Type 0} → Engine S → Setup → List Entry → ℕ → Type 0
IsBeforeEnd engine setup es n = (k : ℕ) → k < n → HasEnded engine setup es k → ⊥

-- WHAT HOLDS OF EACH CORE OF A RUN

-- Each value is of its kind. There are as many counts as semaphores, each below 2^31, and the declared tasks with their declared
-- priorities; all priorities are from 1 to 255. Plans are lawful ones, of which periods alone have an end. Whoever acted last is
-- a task. Up to the last moment that there is no dormant task has a plan to go on or keeps a start, and plans have their series.
pub record IsCoreOf (setup : Setup) (core : Core) : Type 0 where
  pub kinds : HasKinds setup core
  pub counts : HasCounts setup core
  pub declared : map declared_of core.tasks ≡ map (λ task. task.priority) setup.tasks
  pub urgent : HasUrgencies core
  pub plans : HasPlans setup core
  pub ends : HasEnds core
  pub last : HasLast core
  pub times : core.moment ≤ last_moment_of_all → HasTimes setup core

-- WHAT IS TOLD AT THE START

-- the start of a MAIN task with its declared priority, at moment 0
pub record IsFirstStart (tasks : List TaskEntry) (told : ℕ × Report) (t : ℕ) : Type 0 where
  pub task : TaskEntry
  pub declared : slice_get tasks t ≡ Some task
  pub main : task.main ≡ true
  pub starts : told ≡ (0, Happened (event.Start t task.priority))

-- the starts of the MAIN tasks, one for each of them in order of declaration, and nothing else
pub record AreFirstStarts (tasks : List TaskEntry) (told : List (ℕ × Report)) : Type 0 where
  pub each : (t : ℕ) (task : TaskEntry) → slice_get tasks t ≡ Some task → task.main ≡ true →
      Contains told (0, Happened (event.Start t task.priority))
  pub only : (x : ℕ × Report) → Contains told x → (t : ℕ) × IsFirstStart tasks x t
  pub in_order : (i j t u p q : ℕ) → i < j → slice_get told i ≡ Some (0, Happened (event.Start t p)) →
      slice_get told j ≡ Some (0, Happened (event.Start u q)) → t < u
