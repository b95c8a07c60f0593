-- What contracts see of a machine, and where a run goes on from there.
use Rattle.std.specs.Prelude.{◌≡◌, ◌⊎◌, ℕ, suc, ◌+◌, ◌-◌, ◌<◌, ◌≤◌, List, [], ◌∷◌, ◌++◌, Bool, true, false, Option, Some, None, slice_set}
use Rattle.pearl_rules.specs.declared.action.Action.{Action}
use Rattle.pearl_rules.specs.declared.entry.Entry.{Entry}
use Rattle.pearl_rules.specs.declared.entry.Entry.TheVariants.{Run, Tick, Pass}
use Rattle.pearl_rules.specs.Core.{Report}
use Rattle.pearl_rules.specs.Pick.{pick}
use Rattle.pearl_rules.specs.Runs.{Running, Machine, Mark, Acts, Passes, kept_at, machine_offers, machine_mark, machine_after, next_mark, unsettled}
use Rattle.pearl_stack.specs.Frames.{Frame}
use Rattle.pearl_instructions.specs.declared.object.Parts.{Parts as Object}
use Rattle.pearl_instructions.specs.Engines.{engine}
use Rattle.pearl_solo.specs.Settling.{Settles}
use Rattle.pearl_script.specs.Lines.{report_line}
use Rattle.pearl_instructions.specs.Setups.{setup_of}

-- what is executed, and a state of its run that has told only what isn't written yet, with no entry left
pub record Seen : Type 0 where
  pub object : Object
  pub state : Machine (List Frame)

-- the state of a run at which the machine stands, with what was told and what remains of the journal
abbrev pub at : Seen → List (ℕ × Report) → List Entry → Machine (List Frame)
at seen told entries = record { core = record seen.state.core { told = told }; running = seen.state.running; entries = entries }

-- the same, with this told and not written
abbrev pub retold : Seen → List (ℕ × Report) → Seen
retold seen told = record { object = seen.object; state = at seen told seen.state.entries }

-- the task that acts next
abbrev pub picked : Seen → Option ℕ
picked seen = pick seen.state.core (machine_offers seen.state)

-- From where the machine stands the same mark comes next of these entries as of those. Where a task's action isn't offered yet, it
-- isn't known who acts next, and the same mark comes whoever it is.
abbrev pub SameNext : Seen → List Entry → List Entry → Type 0
SameNext seen entries others =
    (p : Option ℕ) → (unsettled seen.state ≡ None → p ≡ picked seen) → next_mark p entries ≡ next_mark p others

-- The run goes, in some number of steps, from where the old machine stands, with this told before, to where the new one stands, and
-- tells this on the way. The same mark comes next of what is left as of the rest.
pub record Goes (old : Seen) (before : List (ℕ × Report)) (entries rest : List Entry) (new : Seen) (told : List (ℕ × Report)) : Type 0 where
  pub steps : ℕ
  pub left : List Entry
  pub is : machine_after (engine old.object) (at old before entries) steps ≡ at new (before ++ told) left
  pub same : SameNext new left rest

-- Whatever was told before, and whatever comes behind: where these entries come next, the run goes from where the old machine stands
-- to where the new one stands, with those left of them, and tells this on the way.
abbrev pub Handles : Seen → List Entry → List Entry → Seen → List (ℕ × Report) → Type 0
Handles old from left new told = (before : List (ℕ × Report)) (entries rest : List Entry) → SameNext old entries (from ++ rest) →
    Goes old before entries (left ++ rest) new told

-- ONE PART OF AN ENTRY

-- a task is the first of those that have offered nothing, and stands so
pub record IsUnsettled (running : List (Option (Running (List Frame)))) (task : ℕ) (frames : List Frame) : Type 0 where
  pub before : (u : ℕ) → u < task → (r : Running (List Frame)) → kept_at running u ≡ Some r → (action : Action) × (r.offer ≡ Some action)
  pub here : kept_at running task ≡ Some (record { stack = frames; offer = None })

-- the first task that had offered nothing went on to its next action
pub record SettlesFirst (old new : Seen) : Type 0 where
  pub task : ℕ
  pub frames : List Frame
  pub after : List Frame
  pub action : Action
  pub first : IsUnsettled old.state.running task frames
  pub settles : Settles old.object frames after action
  pub same : new ≡ record old {
    state = record old.state { running = slice_set old.state.running task (Some (record { stack = after; offer = Some action })) };
  }

abbrev pub SettledBy : Seen → Seen → Bool → Type 0
SettledBy old new true = SettlesFirst old new
SettledBy old new false = (unsettled old.state ≡ None) × (new ≡ old)

-- such a mark leads from where the old machine stands to where the new one does, and tells what the new one hasn't written
abbrev pub Makes : Seen → Mark → Seen → Type 0
Makes old mark new = (before : List (ℕ × Report)) (entries rest : List Entry) →
    machine_mark (engine old.object) (at old before entries) mark rest ≡ at new (before ++ new.state.core.told) rest

-- the task that acts next did its action
pub record ActsFirst (old new : Seen) : Type 0 where
  pub task : ℕ
  pub picks : picked old ≡ Some task
  pub makes : Makes old (Acts task) new

abbrev pub ActedBy : Seen → Seen → Bool → Type 0
ActedBy old new true = ActsFirst old new
ActedBy old new false = (picked old ≡ None) × (new ≡ old)

-- MILLISECONDS

-- the moment is so much later
abbrev pub later : ℕ → Seen → Seen
later n seen = record seen { state = record seen.state { core = record seen.state.core { moment = seen.state.core.moment + n } } }

-- nobody acts in so many picks
abbrev pub NobodyActs : Seen → (picks : ℕ) → Type 0
NobodyActs seen picks = (picked seen ≡ None) ⊎ (picks ≡ 0)

-- so many milliseconds passed, and nothing else is otherwise
pub record Skips (old : Seen) (n : ℕ) (new : Seen) : Type 0 where
  pub same : new ≡ later n old
  pub makes : (j : ℕ) → j < n → Makes (later j old) Passes (later (suc j) old)

-- So many milliseconds passed: a `tick` has so many fewer left, and likewise a `pass`, where it was one or nobody acts. What was told one
-- millisecond told.
pub record PassesSome (old : Seen) (n : ℕ) (new : Seen) : Type 0 where
  pub some : 0 < n
  pub object : new.object ≡ old.object
  pub moment : new.state.core.moment ≡ old.state.core.moment + n
  pub ticks : (left : ℕ) → n ≤ left → Handles old (Tick left ∷ []) (Tick (left - n) ∷ []) new new.state.core.told
  pub passes : (left picks : ℕ) → n ≤ left → (n ≡ 1) ⊎ NobodyActs old picks →
      Handles old (Pass left picks ∷ []) (Run picks ∷ Pass (left - n) picks ∷ []) new new.state.core.told
  pub tells : (new.state.core.told ≡ []) ⊎ ((n ≡ 1) × Makes old Passes new)

-- this is the line of what is told next, and what is told later is left; or nothing is left
abbrev pub TakesNext : Seen → Seen → List ℕ → Bool → Type 0
TakesNext old new line true =
    (report : ℕ × Report) × (old.state.core.told ≡ report ∷ new.state.core.told) × (line ≡ report_line (setup_of old.object) report)
TakesNext old new line false = (old.state.core.told ≡ []) × (new ≡ old)
