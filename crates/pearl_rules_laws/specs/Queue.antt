-- What becomes of each start of a task over a run: each is answered, and those that are kept leave in their order.
use Rattle.std.specs.Prelude.{◌≡◌, ◌⊎◌, ℕ, zero, suc, ◌+◌, ◌<◌, List, [], ◌∷◌, ◌++◌, Bool, true, false, if◌then◌else◌, nat_eq, Option, Some, None, length, map, take, drop}
use Rattle.pearl_rules.specs.declared.action.Action.{Action}
use Rattle.pearl_rules.specs.declared.action.Action.TheVariants as action
use Rattle.pearl_rules.specs.declared.action.Start.{Start}
use Rattle.pearl_rules.specs.declared.action.Repeat.{Repeat}
use Rattle.pearl_rules.specs.declared.entry.Entry.TheVariants as entry
use Rattle.pearl_rules.specs.declared.event.Event.{Event}
use Rattle.pearl_rules.specs.declared.event.Event.TheVariants as event
use Rattle.pearl_rules.specs.declared.row.Mode.{Mode}
use Rattle.pearl_rules.specs.declared.row.Mode.TheVariants.{Dormant, Active}
use Rattle.pearl_rules.specs.Core.{Core, Report, Happened, Shows, mode_of}
use Rattle.pearl_rules.specs.Plans.{activation_of}
use Rattle.pearl_rules.specs.Devices.{is_enabled}
use Rattle.pearl_rules.specs.Effect.{is_at_once, priority_or_declared}
use Rattle.pearl_rules.specs.Runs.{Mark, Acts, Passes, Arrives, Coming, Supplier, Source, source_offers, source_next, source_step, source_after}
use Rattle.pearl_rules_laws.specs.Plans.{new_activation, starts_now, starts_after}
use Rattle.pearl_rules_laws.specs.Kept.{kept_list}

-- WHAT A MARK TELLS OF A TASK

abbrev pub is_end : Event → Bool
is_end (event.End t) = true
is_end (event.Stop t) = true
is_end (event.Trap t trap) = true
is_end other = false

-- it tells of this task's starts or ends
abbrev pub is_of : ℕ → Event → Bool
is_of t (event.Start u priority) = nat_eq t u
is_of t (event.End u) = nat_eq t u
is_of t (event.Stop u) = nat_eq t u
is_of t (event.Trap u trap) = nat_eq t u
is_of t (event.Kept u number) = nat_eq t u
is_of t (event.Overrun u) = nat_eq t u
is_of t other = false

abbrev pub of_task : ℕ → List (ℕ × Report) → List Event
of_task t [] = []
of_task t ((moment, Happened event) ∷ later) = if is_of t event then event ∷ of_task t later else of_task t later
of_task t ((moment, Shows u shown) ∷ later) = of_task t later

-- what was told of its starts and ends from one core to the next
abbrev pub told_of : ℕ → (before after : Core) → List Event
told_of t before after = of_task t (drop (length before.told) after.told)

-- Right behind an end stands the start that it serves. All else but ends tells what became of a start.
abbrev pub answers_from : (ended : Bool) → List Event → List Event
answers_from ended [] = []
answers_from true (event.Start t priority ∷ later) = answers_from false later
answers_from ended (event ∷ later) = if is_end event then answers_from true later else event ∷ answers_from false later

abbrev pub answers : List Event → List Event
answers told = answers_from false told

abbrev pub served_from : (ended : Bool) → List Event → List ℕ
served_from ended [] = []
served_from true (event.Start t priority ∷ later) = priority ∷ served_from false later
served_from ended (event ∷ later) = served_from (is_end event) later

abbrev pub served_in : List Event → List ℕ
served_in told = served_from false told

abbrev pub has_end : List Event → Bool
has_end [] = false
has_end (event ∷ later) = if is_end event then true else has_end later

-- WHICH START A MARK ASKS FOR

-- by an action that starts the task: now, or by a plan that serves at once
abbrev pub asked_of : Core → (t : ℕ) → Start → Repeat → Option ℕ → Option ℕ
asked_of core t start repeat priority =
    if is_at_once start repeat then Some (priority_or_declared core t priority)
    else starts_now core (Some (new_activation core t start repeat priority))

-- by an interrupt that is let through, and at which its plan serves at once
abbrev pub asked_at : Core → (t interrupt : ℕ) → Option ℕ
asked_at core t interrupt = if is_enabled core interrupt then starts_after core interrupt (activation_of core t) else None

abbrev pub asked_by : Core → (t : ℕ) → Option Action → Option ℕ
asked_by core t (Some (action.Activate u start repeat priority)) = if nat_eq t u then asked_of core t start repeat priority else None
asked_by core t (Some (action.Trigger interrupt)) = asked_at core t interrupt
asked_by core t other = None

-- the priority with which a mark is to start the task, where it is to; a task that acts is the one that acted last then
abbrev pub asked_in : Supplier → Source → (t : ℕ) → Mark → Option ℕ
asked_in offer s t (Acts u) = asked_by (record s.core { last = Some u }) t (source_offers offer s u)
asked_in offer s t Passes = starts_now (record s.core { moment = s.core.moment + 1 }) (activation_of s.core t)
asked_in offer s t (Arrives (entry.Irpt interrupt)) = asked_at s.core t interrupt
asked_in offer s t other = None

abbrev pub asked_if : Supplier → Source → (t : ℕ) → Option Coming → Option ℕ
asked_if offer s t None = None
asked_if offer s t (Some coming) = asked_in offer s t coming.mark

-- and the next mark
abbrev pub asked : Supplier → Source → (t : ℕ) → Option ℕ
asked offer s t = asked_if offer s t (source_next offer s)

-- HOW IT IS ANSWERED

-- an active task keeps fewer than three: this start goes behind them, and their number alone is told
pub record KeepsStart (t priority : ℕ) (old new : List ℕ) (told : List Event) : Type 0 where
  pub room : length old < 3
  pub last : new ≡ old ++ priority ∷ []
  pub tells : told ≡ event.Kept t (length new) ∷ []

-- it keeps three: it keeps the same, and that this start is lost alone is told
pub record LosesStart (t : ℕ) (old new : List ℕ) (told : List Event) : Type 0 where
  pub full : length old ≡ 3
  pub stays : new ≡ old
  pub tells : told ≡ event.Overrun t ∷ []

-- what is told where no start is asked for, or one of a task in this mode that keeps the old list, and the new one then
abbrev pub IsAnswered : (t : ℕ) → Option ℕ → Mode → (old new : List ℕ) → List Event → Type 0
IsAnswered t None mode old new told = told ≡ []
IsAnswered t (Some priority) Dormant old new told = told ≡ event.Start t priority ∷ []
IsAnswered t (Some priority) (Active own suspended) old new told = KeepsStart t priority old new told ⊎ LosesStart t old new told

-- so it is with the next mark
abbrev pub AnswersStart : Supplier → Source → (t : ℕ) → Type 0
AnswersStart offer s t =
    let after = (source_step offer s).core in
    IsAnswered t (asked offer s t) (mode_of s.core t) (kept_list s.core t) (kept_list after t) (answers (told_of t s.core after))

-- WHAT IS KEPT OVER A RUN, AND WHAT LEAVES

-- a start that was kept is no longer: it was served at an end, or a PREVENT dropped it
pub data Gone : Type 0 where
  Served : (priority : ℕ) → Gone
  Dropped : (priority : ℕ) → Gone

abbrev pub start_of : Gone → ℕ
start_of (Served priority) = priority
start_of (Dropped priority) = priority

abbrev pub kept_by : Option ℕ → List Event → List ℕ
kept_by (Some priority) (event.Kept t number ∷ later) = priority ∷ []
kept_by start told = []

-- the start that the next mark asks for, where the answer is that it is kept
abbrev pub kept_next : Supplier → Source → (t : ℕ) → List ℕ
kept_next offer s t = kept_by (asked offer s t) (answers (told_of t s.core (source_step offer s).core))

abbrev pub prevents : ℕ → Option Action → Bool
prevents t (Some (action.Prevent u)) = nat_eq t u
prevents t other = false

abbrev pub prevents_in : Supplier → Source → (t : ℕ) → Mark → Bool
prevents_in offer s t (Acts u) = prevents t (source_offers offer s u)
prevents_in offer s t other = false

abbrev pub prevents_if : Supplier → Source → (t : ℕ) → Option Coming → Bool
prevents_if offer s t None = false
prevents_if offer s t (Some coming) = prevents_in offer s t coming.mark

abbrev pub gone_by : (prevented : Bool) (old : List ℕ) → List Event → List Gone
gone_by true old told = map Dropped old
gone_by false old told = map Served (served_in told)

-- by a PREVENT all that the task kept, else the starts that an end serves
abbrev pub gone_next : Supplier → Source → (t : ℕ) → List Gone
gone_next offer s t =
    gone_by (prevents_if offer s t (source_next offer s)) (kept_list s.core t) (told_of t s.core (source_step offer s).core)

-- Where the next mark tells an end, this end serves the oldest start that the task keeps, if there is one. A PREVENT tells
-- nothing of the task.
pub record ServesOldest (offer : Supplier) (s : Source) (t : ℕ) : Type 0 where
  pub serves : has_end (told_of t s.core (source_step offer s).core) ≡ true →
      served_in (told_of t s.core (source_step offer s).core) ≡ take 1 (kept_list s.core t)
  pub prevents : prevents_if offer s t (source_next offer s) ≡ true → told_of t s.core (source_step offer s).core ≡ []

-- over so many marks
abbrev pub kept_over : Supplier → Source → (t m : ℕ) → List ℕ
kept_over offer s t zero = []
kept_over offer s t (suc m) = kept_over offer s t m ++ kept_next offer (source_after offer s m) t

abbrev pub gone_over : Supplier → Source → (t m : ℕ) → List Gone
gone_over offer s t zero = []
gone_over offer s t (suc m) = gone_over offer s t m ++ gone_next offer (source_after offer s m) t
