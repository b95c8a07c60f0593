-- Which task acts next, and how a task stands: of what is told to be possible (`.._by`), and of what the tasks offer.
use Rattle.std.specs.Prelude.{◌≡◌, ◌≢◌, ℕ, zero, suc, ◌≤◌, ◌⊎◌, List, [], ◌∷◌, ◌++◌, Bool, true, false, Option, Some, None, length, nat_lt, nat_eq, ◌||◌, ◌&&◌, IsTrue}
use Rattle.pearl_value.specs.declared.cell.Cell.{Cell}
use Rattle.pearl_rules.specs.declared.action.Action.{Action}
use Rattle.pearl_rules.specs.declared.action.Action.TheVariants.{Request, Get, Take}
use Rattle.pearl_rules.specs.declared.row.Mode.{Mode}
use Rattle.pearl_rules.specs.declared.row.Mode.TheVariants.{Dormant, Active}
use Rattle.pearl_rules.specs.declared.row.TaskRow.{TaskRow}
use Rattle.pearl_rules.specs.declared.event.Shown.TheVariants as shown
use Rattle.pearl_rules.specs.declared.event.Shown.{Shown}
use Rattle.pearl_rules.specs.Core.{Core, Report, Shows, row_of}
use Rattle.pearl_rules.specs.Counts.{all_free}
use Rattle.pearl_rules.specs.Devices.{items_of, bytes_at, values_at}
use Rattle.pearl_rules.specs.Scan.{Scanned, Short, scan}

-- what each task offers to do next: none where it isn't active or hasn't offered yet
abbrev pub Offered : Type 0
Offered = ℕ → Option Action

abbrev pub is_complete : Scanned → Bool
is_complete Short = false
is_complete other = true

abbrev pub is_some_value : List Cell → Bool
is_some_value [] = false
is_some_value (x ∷ later) = true

-- whether an action can be done now: a request waits until all that it names are above 0, GET until what came in at its terminal is
-- enough, TAKE until a value is there
abbrev pub guard : Core → Action → Bool
guard core (Request semaphores) = all_free core.counts semaphores.items
guard core (Get device format kinds) = is_complete (scan (items_of core format) kinds.items (bytes_at core device))
guard core (Take device) = is_some_value (values_at core device)
guard core action = true

abbrev pub is_possible : Core → Option Action → Bool
is_possible core None = false
is_possible core (Some action) = guard core action

-- whether what each task offers can be done now
abbrev pub possible_of : Core → Offered → ℕ → Bool
possible_of core offers t = is_possible core (offers t)

abbrev pub is_ready : Mode → Bool → Bool
is_ready Dormant possible = false
is_ready (Active priority true) possible = false
is_ready (Active priority false) possible = possible

abbrev pub is_ready_row : Option TaskRow → Bool → Bool
is_ready_row None possible = false
is_ready_row (Some row) possible = is_ready row.mode possible

-- a task that is active, isn't suspended, and of which it is told that its action is possible
abbrev pub is_eligible_by : Core → (possible : ℕ → Bool) → ℕ → Bool
is_eligible_by core possible t = is_ready_row (row_of core t) (possible t)

-- a task that is active, isn't suspended, and whose action can be done now
abbrev pub is_eligible : Core → Offered → ℕ → Bool
is_eligible core offers t = is_eligible_by core (possible_of core offers) t

abbrev pub priority_of_mode : Mode → ℕ
priority_of_mode Dormant = 256
priority_of_mode (Active priority suspended) = priority

abbrev pub priority_of_row : Option TaskRow → ℕ
priority_of_row None = 256
priority_of_row (Some row) = priority_of_mode row.mode

-- a task's priority number; a smaller one is more urgent, and no active task's is above 255
abbrev pub priority_of : Core → ℕ → ℕ
priority_of core t = priority_of_row (row_of core t)

abbrev pub is_last_of : Option ℕ → ℕ → Bool
is_last_of None t = false
is_last_of (Some u) t = nat_eq u t

-- whether task t acted last
abbrev pub is_last : Core → ℕ → Bool
is_last core t = is_last_of core.last t

-- whether t goes before an earlier declared task u
abbrev pub goes_before : Core → ℕ → ℕ → Bool
goes_before core t u =
    nat_lt (priority_of core t) (priority_of core u) || (nat_eq (priority_of core t) (priority_of core u) && is_last core t)

abbrev pub better_if : Bool → ℕ → ℕ → Option ℕ
better_if true t u = Some t
better_if false t u = Some u

abbrev pub better : Core → Option ℕ → ℕ → Bool → Option ℕ
better core best t false = best
better core None t true = Some t
better core (Some u) t true = better_if (goes_before core t u) t u

-- the one that acts next among the first n tasks, where it is told which tasks' actions are possible
abbrev pub pick_first_by : Core → (possible : ℕ → Bool) → ℕ → Option ℕ
pick_first_by core possible zero = None
pick_first_by core possible (suc n) = better core (pick_first_by core possible n) n (is_eligible_by core possible n)

-- the task that acts next, where it is told which tasks' actions are possible
abbrev pub pick_by : Core → (possible : ℕ → Bool) → Option ℕ
pick_by core possible = pick_first_by core possible (length core.tasks)

-- the one that acts next among the first n tasks
abbrev pub pick_first : Core → Offered → ℕ → Option ℕ
pick_first core offers n = pick_first_by core (possible_of core offers) n

-- the task that acts next
abbrev pub pick : Core → Offered → Option ℕ
pick core offers = pick_by core (possible_of core offers)

-- the rule in the subject's words: t is eligible; no eligible task has a smaller priority number; of those with the same
-- number t is the one that acted last, or none of them acted last and t is the first declared
pub record IsPickedBy (core : Core) (possible : ℕ → Bool) (t : ℕ) : Type 0 where
  pub eligible : IsTrue (is_eligible_by core possible t)
  pub urgent : (u : ℕ) → IsTrue (is_eligible_by core possible u) → priority_of core t ≤ priority_of core u
  pub first : (core.last ≡ Some t) ⊎ ((u : ℕ) → IsTrue (is_eligible_by core possible u) → priority_of core u ≡ priority_of core t → (core.last ≢ Some u) × (t ≤ u))

abbrev pub IsPicked : Core → Offered → ℕ → Type 0
IsPicked core offers t = IsPickedBy core (possible_of core offers) t

abbrev pub is_as_urgent : Core → Option ℕ → ℕ → Bool
is_as_urgent core None t = false
is_as_urgent core (Some u) t = nat_eq (priority_of core t) (priority_of core u)

-- whether it can be this task's turn: it is eligible, and as urgent as the one that acts next
abbrev pub can_turn_by : Core → (possible : ℕ → Bool) → ℕ → Bool
can_turn_by core possible t = is_eligible_by core possible t && is_as_urgent core (pick_by core possible) t

abbrev pub can_turn : Core → Offered → ℕ → Bool
can_turn core offers t = can_turn_by core (possible_of core offers) t

abbrev pub last_if : Bool → Core → ℕ → Core
last_if true core t = record core { last = Some t }
last_if false core t = core

-- it is this task's turn, where it can be: it counts as the one that acted last
abbrev pub turned_by : Core → (possible : ℕ → Bool) → ℕ → Core
turned_by core possible t = last_if (can_turn_by core possible t) core t

abbrev pub turned : Core → Offered → ℕ → Core
turned core offers t = turned_by core (possible_of core offers) t

abbrev pub shown_active : Bool → Bool → Bool → ℕ → Shown
shown_active true possible picked priority = shown.Suspended priority
shown_active false false picked priority = shown.Blocked priority
shown_active false true true priority = shown.Running priority
shown_active false true false priority = shown.Runnable priority

abbrev pub shown_mode : Mode → Bool → Bool → Shown
shown_mode Dormant possible picked = shown.Dormant
shown_mode (Active priority suspended) possible picked = shown_active suspended possible picked priority

abbrev pub shown_row : Option TaskRow → Bool → Bool → Shown
shown_row None possible picked = shown.Dormant
shown_row (Some row) possible picked = shown_mode row.mode possible picked

-- how a task stands, where it is told which tasks' actions are possible
abbrev pub shown_by : Core → (possible : ℕ → Bool) → ℕ → Shown
shown_by core possible t = shown_row (row_of core t) (possible t) (is_last_of (pick_by core possible) t)

-- how a task stands
abbrev pub shown_of : Core → Offered → ℕ → Shown
shown_of core offers t = shown_by core (possible_of core offers) t

-- how the first n tasks stand, in order of declaration
abbrev pub states_first_by : Core → (possible : ℕ → Bool) → ℕ → List (ℕ × Report)
states_first_by core possible zero = []
states_first_by core possible (suc n) = states_first_by core possible n ++ (core.moment, Shows n (shown_by core possible n)) ∷ []

abbrev pub states_first : Core → Offered → ℕ → List (ℕ × Report)
states_first core offers n = states_first_by core (possible_of core offers) n

-- how all tasks stand
abbrev pub states_by : Core → (possible : ℕ → Bool) → List (ℕ × Report)
states_by core possible = states_first_by core possible (length core.tasks)

abbrev pub states : Core → Offered → List (ℕ × Report)
states core offers = states_by core (possible_of core offers)

-- the core that has told how all tasks stand
abbrev pub showing_by : Core → (possible : ℕ → Bool) → Core
showing_by core possible = record core { told = core.told ++ states_by core possible }

abbrev pub showing : Core → Offered → Core
showing core offers = showing_by core (possible_of core offers)
