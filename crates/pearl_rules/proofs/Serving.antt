-- What starts, plans that serve, interrupts and milliseconds keep: a property of cores that each small step keeps is kept by all of them,
-- and by every action where ends keep it too.
use Rattle.std.proofs.Common.{◌≡◌, ◌⊎◌, inl, inr, ℕ, zero, suc, ◌+◌, Bool, true, false, nat_lt, if◌then◌else◌, IfSome, List, [], ◌∷◌, ◌++◌, ◌-◌, Option, Some, None, Result, Ok, Err, length, length-set, drop, nat_le, slice_set, refl, sym, ap, subst, ◌∙◌}
use Rattle.std.specs.List.{AllByRecursion}
use Rattle.pearl_value.specs.declared.cell.Cell.{Cell}
use Rattle.pearl_value.specs.declared.kind.Kind.{Kind}
use Rattle.pearl_value.specs.declared.trap.Trap.{Trap}
use Rattle.pearl_value.specs.Conversions.{converted}
use Rattle.pearl_value.specs.declared.trap.Trap.TheVariants.{SemaLimit, Format}
use Rattle.pearl_rules.specs.declared.action.Action.{Action}
use Rattle.pearl_rules.specs.declared.action.Action.TheVariants as action
use Rattle.pearl_rules.specs.declared.action.Start.{Start}
use Rattle.pearl_rules.specs.declared.action.Repeat.{Repeat}
use Rattle.pearl_rules.specs.declared.action.Repeat.TheVariants.{Once}
use Rattle.pearl_rules.specs.declared.entry.Entry.{Entry}
use Rattle.pearl_rules.specs.declared.entry.Entry.TheVariants as entry
use Rattle.pearl_rules.specs.declared.event.Event.{Event}
use Rattle.pearl_rules.specs.declared.event.Event.TheVariants as event
use Rattle.pearl_rules.specs.declared.row.Mode.{Mode}
use Rattle.pearl_rules.specs.declared.row.Mode.TheVariants.{Dormant, Active}
use Rattle.pearl_rules.specs.declared.row.Kept.{Kept}
use Rattle.pearl_rules.specs.declared.row.Kept.TheVariants as kept
use Rattle.pearl_rules.specs.declared.row.Plan.{Plan}
use Rattle.pearl_rules.specs.declared.row.Activation.{Activation}
use Rattle.pearl_rules.specs.declared.row.TaskRow.{TaskRow}
use Rattle.pearl_rules.specs.Core.{Core, Channel, Switch, Bytes, Values, Outward, note, row_of, with_row, mode_of_row, mode_of, is_active_mode, is_active_row, is_active}
use Rattle.pearl_rules.specs.Counts.{count_at, all_below_most, lowered, raised}
use Rattle.pearl_rules.specs.Plans.{on_row, changed_row, priorities, and_one, oldest, kept_in, kept_of, with_kept, made_active, late_by, with_mode, with_continuation, with_activation, continuation_in, continuation_of, activation_in, activation_of, started_by, started, marked_mode, with_mark, planned, begun, waits_for, serves_if, continued, serve_continuation, serve_activation_by, serve_activation, plan_continuation, plan_activation, each_task, served, millisecond, begin_continuation, begin_activation, continuation_began, reached, occurred}
use Rattle.pearl_rules.specs.Devices.{channel_of, with_channel, is_enabled, interrupted, items_of, bytes_at, terminal_room, with_bytes, without_bytes, values_at, input_room, joined, with_value_by, with_value, without_value_by, without_value, arrived}
use Rattle.pearl_rules.specs.Scan.{Scanned, Short, Bad, Got, scan}
use Rattle.pearl_rules.specs.Effect.{finished, again_by, ended_with, ending, is_at_once, activated, continues, resuming, prevented, priority_or_declared, stopped_by, stopping, releasing, trying, getting, taking, effect_of, effect}
use Rattle.pearl_rules.proofs.Places.{set-same}

-- how a task's mode may change where no task ends: a dormant one becomes active with a priority of this sort, an active one stays so with its own
abbrev pub Stays : (Urgent : ℕ → Type 0) → Mode → Mode → Type 0
Stays Urgent Dormant Dormant = Unit {0}
Stays Urgent Dormant (Active priority suspended) = Urgent priority
Stays Urgent (Active own before) Dormant = ⊥
Stays Urgent (Active own before) (Active priority suspended) = own ≡ priority

-- what a task of this row may keep in a mode: what it kept, or where it is active some priorities of this sort
abbrev pub MayKeep : (Urgent : ℕ → Type 0) → TaskRow → Mode → Kept → Type 0
MayKeep Urgent row mode kept = (kept ≡ row.kept) ⊎ ((is_active_mode mode ≡ true) × AllByRecursion Urgent (priorities kept))

-- a priority and a plan of these sorts
abbrev pub Starts : (Urgent : ℕ → Type 0) (Lawful : Plan → Type 0) → Activation → Type 0
Starts Urgent Lawful activation = Urgent activation.priority × Lawful activation.plan

-- a plan to go on, of a task in this mode, of these sorts
abbrev pub Goes : (Lawful : Plan → Type 0) (Going : Mode → Type 0) → Mode → Plan → Type 0
Goes Lawful Going mode plan = Lawful plan × Going mode

-- Each small step keeps the property P: one more event, another mode with what is kept in it, another plan. The plans and
-- what is kept in a core with P are of these sorts, and so are the modes of the tasks that have a plan to go on; every active
-- task may have one.
pub record ClosedFor (Urgent : ℕ → Type 0) (Lawful : Plan → Type 0) (Going : Mode → Type 0)
    (P : Core → Type 0) : Type 0 where
  pub told : (core : Core) (e : Event) → P core → P (note core e)
  pub stands : (core : Core) (t : ℕ) (row : TaskRow) (mode : Mode) (kept : Kept) → row_of core t ≡ Some row →
      Stays Urgent row.mode mode → MayKeep Urgent row mode kept → P core →
      P (with_row core t (record row { mode = mode; kept = kept }))
  pub goes_on : (core : Core) (t : ℕ) (row : TaskRow) (plan : Option Plan) → row_of core t ≡ Some row →
      IfSome plan (Goes Lawful Going row.mode) → P core → P (with_row core t (record row { continuation = plan }))
  pub starts : (core : Core) (t : ℕ) (row : TaskRow) (plan : Activation) → row_of core t ≡ Some row →
      Starts Urgent Lawful plan → P core →
      P (with_row core t (record row { activation = Some plan }))
  pub going : (core : Core) (t : ℕ) (row : TaskRow) → row_of core t ≡ Some row → P core →
      IfSome row.continuation (Goes Lawful Going row.mode)
  pub starting : (core : Core) (t : ℕ) (row : TaskRow) → row_of core t ≡ Some row → P core →
      IfSome row.activation (Starts Urgent Lawful)
  pub keeping : (core : Core) (t : ℕ) (row : TaskRow) → row_of core t ≡ Some row → P core →
      AllByRecursion Urgent (priorities row.kept)
  pub begins : (core : Core) (plan : Plan) → P core → Lawful plan → Lawful (begun core plan)
  pub active : (mode : Mode) → is_active_mode mode ≡ true → Going mode

-- The same where nothing is asked of the modes, and where what plans are to be doesn't depend on the core.
pub record Closed (Urgent : ℕ → Type 0) (Lawful : Plan → Type 0) (P : Core → Type 0) : Type 0 where
  pub told : (core : Core) (e : Event) → P core → P (note core e)
  pub stands : (core : Core) (t : ℕ) (row : TaskRow) (mode : Mode) (kept : Kept) → row_of core t ≡ Some row →
      Stays Urgent row.mode mode → MayKeep Urgent row mode kept → P core →
      P (with_row core t (record row { mode = mode; kept = kept }))
  pub goes_on : (core : Core) (t : ℕ) (row : TaskRow) (plan : Option Plan) → row_of core t ≡ Some row → IfSome plan Lawful → P core →
      P (with_row core t (record row { continuation = plan }))
  pub starts : (core : Core) (t : ℕ) (row : TaskRow) (plan : Activation) → row_of core t ≡ Some row → Starts Urgent Lawful plan → P core →
      P (with_row core t (record row { activation = Some plan }))
  pub going : (core : Core) (t : ℕ) (row : TaskRow) → row_of core t ≡ Some row → P core → IfSome row.continuation Lawful
  pub starting : (core : Core) (t : ℕ) (row : TaskRow) → row_of core t ≡ Some row → P core → IfSome row.activation (Starts Urgent Lawful)
  pub keeping : (core : Core) (t : ℕ) (row : TaskRow) → row_of core t ≡ Some row → P core →
      AllByRecursion Urgent (priorities row.kept)
  pub begins : (core : Core) (plan : Plan) → Lawful plan → Lawful (begun core plan)

-- and so does each step that ends a task or drops its plans and what it keeps
pub record ClosedAtEnds (P : Core → Type 0) : Type 0 where
  pub ends : (core : Core) (t : ℕ) (row : TaskRow) → row_of core t ≡ Some row → P core →
      P (with_row core t (record row { mode = Dormant; kept = kept.Nothing; continuation = None }))
  pub prevents : (core : Core) (t : ℕ) (row : TaskRow) → row_of core t ≡ Some row → P core →
      P (with_row core t (record row { kept = kept.Nothing; continuation = None; activation = None }))

-- another core that differs in values, counts, channels and who acted last alone, of which it has as many
pub record OnlyValues (core other : Core) : Type 0 where
  pub moment : other.moment ≡ core.moment
  pub clock : other.clock ≡ core.clock
  pub tasks : other.tasks ≡ core.tasks
  pub formats : other.formats ≡ core.formats
  pub told : other.told ≡ core.told
  pub slots : length other.slots ≡ length core.slots
  pub counts : length other.counts ≡ length core.counts
  pub channels : length other.channels ≡ length core.channels

-- and so does whatever changes values alone
abbrev pub IsFree : (P : Core → Type 0) → Type 0
IsFree P = (core other : Core) → OnlyValues core other → P core → P other

-- what a task does next, of these sorts
abbrev pub Brings : (Urgent : ℕ → Type 0) (Lawful : Plan → Type 0) → Core → Action → Type 0
Brings Urgent Lawful core (action.Activate t start repeat priority) =
    ((row : TaskRow) → row_of core t ≡ Some row → Urgent (priority_or_declared core t priority)) × ((now : Core) → Lawful (planned now start repeat))
Brings Urgent Lawful core (action.Continue t start) = (now : Core) → Lawful (planned now start Once)
Brings Urgent Lawful core (action.Resume start) = (now : Core) → Lawful (planned now start Once)
Brings Urgent Lawful core other = Unit {0}

-- the same, where what plans are to be depends on the core that has P
abbrev pub BringsTo : (Urgent : ℕ → Type 0) (Lawful : Plan → Type 0) (P : Core → Type 0) → Core → Action → Type 0
BringsTo Urgent Lawful P core (action.Activate t start repeat priority) =
    ((row : TaskRow) → row_of core t ≡ Some row → Urgent (priority_or_declared core t priority))
    × ((now : Core) → P now → Lawful (planned now start repeat))
BringsTo Urgent Lawful P core (action.Continue t start) = (now : Core) → P now → Lawful (planned now start Once)
BringsTo Urgent Lawful P core (action.Resume start) = (now : Core) → P now → Lawful (planned now start Once)
BringsTo Urgent Lawful P core other = Unit {0}

-- what an action does to values, counts and channels keeps P, in this core
abbrev pub KeepsValues : (P : Core → Type 0) → Core → Action → Type 0
KeepsValues P core (action.Write slot value) = P (record core { slots = slice_set core.slots slot value })
KeepsValues P core (action.Request list) = P (record core { counts = lowered core.counts list.items })
KeepsValues P core (action.Release list) = all_below_most core.counts list.items ≡ true → P (record core { counts = raised core.counts list.items })
KeepsValues P core (action.Try s) = P (record core { counts = lowered core.counts (s ∷ []) })
KeepsValues P core (action.Enable device) = P (with_channel core device (Switch true))
KeepsValues P core (action.Disable device) = P (with_channel core device (Switch false))
KeepsValues P core (action.Get device format kinds) = (used : ℕ) → P (without_bytes core device used)
KeepsValues P core (action.Take device) = P (without_value core device)
KeepsValues P core other = Unit {0}

-- lower counts are as many
pub lowered-length : (counts semaphores : List ℕ) → length (lowered counts semaphores) ≡ length counts
lowered-length counts [] = refl
lowered-length counts (s ∷ others) =
    lowered-length (slice_set counts s (count_at counts s - 1)) others ∙ length-set counts s (count_at counts s - 1)

-- and so are higher ones
pub raised-length : (counts semaphores : List ℕ) → length (raised counts semaphores) ≡ length counts
raised-length counts [] = refl
raised-length counts (s ∷ others) =
    raised-length (slice_set counts s (count_at counts s + 1)) others ∙ length-set counts s (count_at counts s + 1)

-- who acted last is no value of the module
pub only_last : (core : Core) (last : Option ℕ) → OnlyValues core (record core { last = last })
only_last core last =
    record { moment = refl; clock = refl; tasks = refl; formats = refl; told = refl; slots = refl; counts = refl; channels = refl }

-- as many slots
only_slots : (core : Core) (slots : List Cell) → length slots ≡ length core.slots → OnlyValues core (record core { slots = slots })
only_slots core slots same =
    record { moment = refl; clock = refl; tasks = refl; formats = refl; told = refl; slots = same; counts = refl; channels = refl }

-- as many counts
only_counts : (core : Core) (counts : List ℕ) → length counts ≡ length core.counts → OnlyValues core (record core { counts = counts })
only_counts core counts same =
    record { moment = refl; clock = refl; tasks = refl; formats = refl; told = refl; slots = refl; counts = same; channels = refl }

-- another channel of a device
only_channel : (core : Core) (device : ℕ) (channel : Channel) → OnlyValues core (with_channel core device channel)
only_channel core device channel = record {
  moment = refl;
  clock = refl;
  tasks = refl;
  formats = refl;
  told = refl;
  slots = refl;
  counts = refl;
  channels = length-set core.channels device channel;
}

-- what holds with each of two answers to a question
pub either : (P : Core → Type 0) (test : Bool) (core other : Core) → P core → P other → P (if test then core else other)
either P true core other p q = p
either P false core other p q = q

-- what each task's step keeps is kept by the steps of all
pub each-kept : (P : Core → Type 0) (change : Core → ℕ → Core) → ((core : Core) (t : ℕ) → P core → P (change core t)) → (n : ℕ) (core : Core) →
    P core → P (each_task change n core)
each-kept P change kept zero core p = p
each-kept P change kept (suc n) core p = kept (each_task change n core) n (each-kept P change kept n core p)

-- WHAT IS KEPT

-- priorities that are kept, with one more of the same sort
and_one_more : (Urgent : ℕ → Type 0) (kept : Kept) (priority : ℕ) → AllByRecursion Urgent (priorities kept) → Urgent priority →
    IfSome (and_one kept priority) (λ more. AllByRecursion Urgent (priorities more))
and_one_more Urgent kept.Nothing priority all urgent = (urgent, tt)
and_one_more Urgent (kept.One a) priority all urgent = (all.0, (urgent, tt))
and_one_more Urgent (kept.Two a b) priority all urgent = (all.0, (all.1.0, (urgent, tt)))
and_one_more Urgent (kept.Three a b c) priority all urgent = tt

-- the oldest of them, and those behind it
oldest_of : (Urgent : ℕ → Type 0) (kept : Kept) → AllByRecursion Urgent (priorities kept) →
    IfSome (oldest kept) (λ next. Urgent next.0 × AllByRecursion Urgent (priorities next.1))
oldest_of Urgent kept.Nothing all = tt
oldest_of Urgent (kept.One a) all = all
oldest_of Urgent (kept.Two a b) all = all
oldest_of Urgent (kept.Three a b c) all = all

-- a mode that stays
stays_so : (Urgent : ℕ → Type 0) (mode : Mode) → Stays Urgent mode mode
stays_so Urgent Dormant = tt
stays_so Urgent (Active priority suspended) = refl

-- a task that ends is dormant
finished_dormant : (core : Core) (t : ℕ) → mode_of (finished core t) t ≡ Dormant
finished_dormant core t = by_row (row_of core t) refl
  where
    by_row : (row : Option TaskRow) → row_of core t ≡ row →
        mode_of (on_row row core (λ r. with_row core t (record r { mode = Dormant; kept = kept.Nothing; continuation = None }))) t ≡ Dormant
    by_row None at = ap mode_of_row at
    by_row (Some row) at =
        ap mode_of_row (set-same core.tasks t row (record row { mode = Dormant; kept = kept.Nothing; continuation = None }) at)

module _ (Urgent : ℕ → Type 0) (Lawful : Plan → Type 0) (Going : Mode → Type 0) (P : Core → Type 0)
    (closed : ClosedFor Urgent Lawful Going P) where
  -- ROWS

  -- another mode
  mode-keeps : (core : Core) (t : ℕ) (mode : Mode) →
      ((row : TaskRow) → row_of core t ≡ Some row → Stays Urgent row.mode mode) → P core →
      P (with_mode core t mode)
  mode-keeps core t mode stays p = by_row (row_of core t) refl
    where
      by_row : (row : Option TaskRow) → row_of core t ≡ row → P (on_row row core (λ r. with_row core t (record r { mode = mode })))
      by_row None at = p
      by_row (Some row) at = closed.stands core t row mode row.kept at (stays row at) (inl refl) p

  -- another plan to go on
  continuation-keeps : (core : Core) (t : ℕ) (plan : Option Plan) →
      ((row : TaskRow) → row_of core t ≡ Some row → IfSome plan (Goes Lawful Going row.mode)) → P core →
      P (with_continuation core t plan)
  continuation-keeps core t plan goes p = by_row (row_of core t) refl
    where
      by_row : (row : Option TaskRow) → row_of core t ≡ row → P (on_row row core (λ r. with_row core t (record r { continuation = plan })))
      by_row None at = p
      by_row (Some row) at = closed.goes_on core t row plan at (goes row at) p

  -- another plan to be started
  activation-keeps : (core : Core) (t : ℕ) (plan : Activation) →
      ((row : TaskRow) → row_of core t ≡ Some row → Starts Urgent Lawful plan) → P core →
      P (with_activation core t (Some plan))
  activation-keeps core t plan lawful p = by_row (row_of core t) refl
    where
      by_row : (row : Option TaskRow) → row_of core t ≡ row → P (on_row row core (λ r. with_row core t (record r { activation = Some plan })))
      by_row None at = p
      by_row (Some row) at = closed.starts core t row plan at (lawful row at) p

  -- the plans that a task has
  continuation-is : (core : Core) (t : ℕ) (plan : Plan) → continuation_of core t ≡ Some plan → P core →
      (row : TaskRow) → row_of core t ≡ Some row → Goes Lawful Going row.mode plan
  continuation-is core t plan is p row at =
      subst (λ o. IfSome o (Goes Lawful Going row.mode)) (sym (ap continuation_in at) ∙ is)
      (closed.going core t row at p)

  activation-is : (core : Core) (t : ℕ) → P core → IfSome (activation_of core t) (Starts Urgent Lawful)
  activation-is core t p = by_row (row_of core t) refl
    where
      by_row : (row : Option TaskRow) → row_of core t ≡ row → IfSome (activation_in row) (Starts Urgent Lawful)
      by_row None at = tt
      by_row (Some row) at = closed.starting core t row at p

  -- STARTS AND SUSPENDED TASKS

  -- what a task keeps
  all_kept : (core : Core) (t : ℕ) → P core → AllByRecursion Urgent (priorities (kept_of core t))
  all_kept core t p = by_row (row_of core t) refl
    where
      by_row : (row : Option TaskRow) → row_of core t ≡ row → AllByRecursion Urgent (priorities (kept_in row))
      by_row None at = tt
      by_row (Some row) at = closed.keeping core t row at p

  -- a dormant task becomes active
  made_active-keeps : (core : Core) (t priority : ℕ) (kept : Kept) → mode_of core t ≡ Dormant →
      ((row : TaskRow) → row_of core t ≡ Some row → Urgent priority) → AllByRecursion Urgent (priorities kept) → P core →
      P (made_active core t priority kept)
  made_active-keeps core t priority kept dormant urgent all p =
      closed.told (changed_row core t (λ r. record r { mode = Active priority false; kept = kept })) (event.Start t priority)
      (by_row (row_of core t) refl)
    where
      by_row : (row : Option TaskRow) → row_of core t ≡ row →
          P (on_row row core (λ r. with_row core t (record r { mode = Active priority false; kept = kept })))
      by_row None at = p
      by_row (Some row) at =
          closed.stands core t row (Active priority false) kept at
          (subst (λ m. Stays Urgent m (Active priority false)) (sym dormant ∙ ap mode_of_row at) (urgent row at)) (inr (refl, all)) p

  -- an active task keeps other starts
  kept-keeps : (core : Core) (t : ℕ) (kept : Kept) → is_active_mode (mode_of core t) ≡ true → AllByRecursion Urgent (priorities kept) → P core →
      P (with_kept core t kept)
  kept-keeps core t kept active all p = by_row (row_of core t) refl
    where
      by_row : (row : Option TaskRow) → row_of core t ≡ row → P (on_row row core (λ r. with_row core t (record r { kept = kept })))
      by_row None at = p
      by_row (Some row) at =
          closed.stands core t row row.mode kept at (stays_so Urgent row.mode)
          (inr (sym (ap (λ r. is_active_mode (mode_of_row r)) at) ∙ active, all)) p

  late-keeps : (core : Core) (t : ℕ) (more : Option Kept) → is_active_mode (mode_of core t) ≡ true →
      IfSome more (λ kept. AllByRecursion Urgent (priorities kept)) → P core → P (late_by more core t)
  late-keeps core t None active all p = closed.told core (event.Overrun t) p
  late-keeps core t (Some kept) active all p =
      closed.told (with_kept core t kept) (event.Kept t (length (priorities kept))) (kept-keeps core t kept active all p)

  pub started-keeps : (core : Core) (t priority : ℕ) →
      ((row : TaskRow) → row_of core t ≡ Some row → Urgent priority) → P core →
      P (started core t priority)
  started-keeps core t priority urgent p = by_mode (mode_of core t) refl
    where
      named : (row : Option TaskRow) → row_of core t ≡ row → is_active_row row ≡ true → Urgent priority
      named None at is = let never : ⊥ = cc in absurd never
      named (Some row) at is = urgent row at

      active_row : (row : Option TaskRow) → is_active_row row ≡ is_active_mode (mode_of_row row)
      active_row None = refl
      active_row (Some row) = refl

      by_mode : (mode : Mode) → mode_of core t ≡ mode → P (started_by mode core t priority)
      by_mode Dormant dormant = made_active-keeps core t priority kept.Nothing dormant urgent tt p
      by_mode (Active own suspended) active =
          let is : is_active_mode (mode_of core t) ≡ true = ap is_active_mode active in
          late-keeps core t (and_one (kept_of core t) priority) is
          (and_one_more Urgent (kept_of core t) priority (all_kept core t p)
          (named (row_of core t) refl (active_row (row_of core t) ∙ is))) p

  pub mark-keeps : (core : Core) (t : ℕ) (suspended : Bool) → P core → P (with_mark core t suspended)
  mark-keeps core t suspended p =
      mode-keeps core t (marked_mode suspended (mode_of core t))
      (λ row at. subst (λ m. Stays Urgent row.mode (marked_mode suspended m)) (sym (ap mode_of_row at)) (marked row.mode)) p
    where
      marked : (mode : Mode) → Stays Urgent mode (marked_mode suspended mode)
      marked Dormant = tt
      marked (Active priority before) = refl

  -- PLANS THAT SERVE

  continued-keeps : (core : Core) (t : ℕ) → P core → P (continued core t)
  continued-keeps core t p = continuation-keeps (with_mark core t false) t None (λ row at. tt)
      (mark-keeps core t false p)

  serve_continuation-keeps : (core : Core) (t : ℕ) → P core → P (serve_continuation core t)
  serve_continuation-keeps core t p =
      either P (serves_if core (continuation_of core t)) (continued core t) core (continued-keeps core t p) p

  serve_activation-keeps : (core : Core) (t : ℕ) → P core → P (serve_activation core t)
  serve_activation-keeps core t p = by_plan (activation_of core t) (activation-is core t p)
    where
      by_plan : (plan : Option Activation) → IfSome plan (Starts Urgent Lawful) → P (serve_activation_by plan core t)
      by_plan None lawful = p
      by_plan (Some plan) lawful =
          either P (serves_if core (Some plan.plan)) (started core t plan.priority) core
          (started-keeps core t plan.priority (λ row at. lawful.0) p) p

  pub plan_continuation-keeps : (core : Core) (t : ℕ) (plan : Plan) →
      ((row : TaskRow) → row_of core t ≡ Some row → Goes Lawful Going row.mode plan) → P core →
      P (plan_continuation core t plan)
  plan_continuation-keeps core t plan goes p =
      serve_continuation-keeps (with_continuation core t (Some plan)) t (continuation-keeps core t (Some plan) goes p)

  pub plan_activation-keeps : (core : Core) (t : ℕ) (plan : Activation) →
      ((row : TaskRow) → row_of core t ≡ Some row → Starts Urgent Lawful plan) →
      P core → P (plan_activation core t plan)
  plan_activation-keeps core t plan lawful p =
      serve_activation-keeps (with_activation core t (Some plan)) t (activation-keeps core t plan lawful p)

  -- MILLISECONDS AND INTERRUPTS

  pub served-keeps : (core : Core) (t : ℕ) → P core → P (served core t)
  served-keeps core t p = serve_activation-keeps (serve_continuation core t) t (serve_continuation-keeps core t p)

  pub millisecond-keeps : (core : Core) → P (record core { moment = core.moment + 1 }) → P (millisecond core)
  millisecond-keeps core p = each-kept P served served-keeps (length core.tasks)
      (record core { moment = core.moment + 1 }) p

  continuation_began-keeps : (interrupt : ℕ) (core : Core) (t : ℕ) → P core → P (continuation_began interrupt core t)
  continuation_began-keeps interrupt core t p = by_plan (continuation_of core t) refl
    where
      by_plan : (plan : Option Plan) → continuation_of core t ≡ plan → P (begin_continuation interrupt plan core t)
      by_plan None is = p
      by_plan (Some plan) is =
          either P (waits_for interrupt plan.when) (plan_continuation core t (begun core plan)) core
          (plan_continuation-keeps core t (begun core plan)
          (λ row at. let goes = continuation-is core t plan is p row at in
          (closed.begins core plan p goes.0, goes.1)) p) p

  activation_began-keeps : (interrupt : ℕ) (core : Core) (t : ℕ) → P core →
      P (begin_activation interrupt (activation_of core t) core t)
  activation_began-keeps interrupt core t p = by_plan (activation_of core t) (activation-is core t p)
    where
      by_plan : (plan : Option Activation) → IfSome plan (Starts Urgent Lawful) → P (begin_activation interrupt plan core t)
      by_plan None lawful = p
      by_plan (Some plan) lawful =
          either P (waits_for interrupt plan.plan.when)
          (plan_activation core t (record plan { plan = begun core plan.plan })) core
          (plan_activation-keeps core t (record plan { plan = begun core plan.plan })
          (λ row at. (lawful.0, closed.begins core plan.plan p lawful.1)) p) p

  reached-keeps : (interrupt : ℕ) (core : Core) (t : ℕ) → P core → P (reached interrupt core t)
  reached-keeps interrupt core t p =
      activation_began-keeps interrupt (continuation_began interrupt core t) t
      (continuation_began-keeps interrupt core t p)

  pub occurred-keeps : (core : Core) (interrupt : ℕ) → P core → P (occurred core interrupt)
  occurred-keeps core interrupt p = each-kept P (reached interrupt) (reached-keeps interrupt) (length core.tasks) core p

  pub interrupted-keeps : (core : Core) (device : ℕ) → P core → P (interrupted core device)
  interrupted-keeps core device p =
      either P (is_enabled core device) (occurred core device) (note core (event.Masked device))
      (occurred-keeps core device p)
      (closed.told core (event.Masked device) p)

  -- ACTIONS ON PLANS

  pub activated-keeps : (core : Core) (t : ℕ) (start : Start) (repeat : Repeat) (priority : ℕ) →
      ((row : TaskRow) → row_of core t ≡ Some row → Urgent priority) → Lawful (planned core start repeat) → P core →
      P (activated core t start repeat priority)
  activated-keeps core t start repeat priority urgent lawful p =
      either P (is_at_once start repeat) (started core t priority)
      (plan_activation core t (record { plan = planned core start repeat; priority = priority }))
      (started-keeps core t priority urgent p)
      (plan_activation-keeps core t (record { plan = planned core start repeat; priority = priority })
      (λ row at. (urgent row at, lawful)) p)

  pub continues-keeps : (core : Core) (t : ℕ) (start : Start) → Lawful (planned core start Once) → P core →
      P (continues core t start)
  continues-keeps core t start lawful p =
      either P (is_at_once start Once) (with_mark core t false)
      (if is_active core t then plan_continuation core t (planned core start Once) else core)
      (mark-keeps core t false p)
      (by_test (is_active core t) refl)
    where
      by_test : (active : Bool) → is_active core t ≡ active →
          P (if active then plan_continuation core t (planned core start Once) else core)
      by_test true is = plan_continuation-keeps core t (planned core start Once)
          (λ row at. (lawful, closed.active row.mode (sym (ap is_active_row at) ∙ is))) p
      by_test false is = p

  -- a task that suspends itself is then one that may have a plan to go on
  abbrev pub MayResume : Core → (own : ℕ) → Type 0
  MayResume core own = (row : TaskRow) → row_of (with_mark core own true) own ≡ Some row → Going row.mode

  pub resuming-keeps : (core : Core) (own : ℕ) (start : Start) → Lawful (planned core start Once) →
      MayResume core own → P core →
      P (resuming core own start)
  resuming-keeps core own start lawful may p =
      plan_continuation-keeps (with_mark core own true) own (planned core start Once) (λ row at. (lawful, may row at))
      (mark-keeps core own true p)

  module _ (at_ends : ClosedAtEnds P) where
    -- ENDS

    finished-keeps : (core : Core) (t : ℕ) → P core → P (finished core t)
    finished-keeps core t p = by_row (row_of core t) refl
      where
        by_row : (row : Option TaskRow) → row_of core t ≡ row →
            P (on_row row core (λ r. with_row core t (record r { mode = Dormant; kept = kept.Nothing; continuation = None })))
        by_row None at = p
        by_row (Some row) at = at_ends.ends core t row at p

    prevented-keeps : (core : Core) (t : ℕ) → P core → P (prevented core t)
    prevented-keeps core t p = by_row (row_of core t) refl
      where
        by_row : (row : Option TaskRow) → row_of core t ≡ row →
            P (on_row row core (λ r. with_row core t (record r { kept = kept.Nothing; continuation = None; activation = None })))
        by_row None at = p
        by_row (Some row) at = at_ends.prevents core t row at p

    -- a dormant task is started with the oldest of what it kept
    again-keeps : (core : Core) (t : ℕ) (next : Option (ℕ × Kept)) → mode_of core t ≡ Dormant →
        IfSome next (λ next. Urgent next.0 × AllByRecursion Urgent (priorities next.1)) → P core → P (again_by next core t)
    again-keeps core t None dormant urgent p = p
    again-keeps core t (Some (first, others)) dormant urgent p =
        made_active-keeps core t first others dormant (λ row at. urgent.0) urgent.1 p

    ended-keeps : (core : Core) (t : ℕ) (e : Event) → P core → P (ended_with core t e)
    ended-keeps core t e p =
        again-keeps (note (finished core t) e) t (oldest (kept_of core t)) (finished_dormant core t)
        (oldest_of Urgent (kept_of core t) (all_kept core t p)) (closed.told (finished core t) e (finished-keeps core t p))

    ending-keeps : (core : Core) (own : ℕ) (e : Event) → P core → P (ending core own e).core
    ending-keeps core own e p = ended-keeps core own e p

    stopping-keeps : (core : Core) (own t : ℕ) → P core → P (stopping core own t).core
    stopping-keeps core own t p = by_mode (mode_of core t)
      where
        by_mode : (mode : Mode) → P (stopped_by mode core t)
        by_mode Dormant = p
        by_mode (Active priority suspended) = ended-keeps core t (event.Stop t) p

    -- ACTIONS

    releasing-keeps : (core : Core) (own : ℕ) (semaphores : List ℕ) (can_raise : Bool) →
        all_below_most core.counts semaphores ≡ can_raise →
        (all_below_most core.counts semaphores ≡ true → P (record core { counts = raised core.counts semaphores })) → P core →
        P (releasing core own semaphores can_raise).core
    releasing-keeps core own semaphores true e raises p = raises e
    releasing-keeps core own semaphores false e raises p = ending-keeps core own (event.Trap own SemaLimit) p

    trying-keeps : (core : Core) (semaphore : ℕ) (is_free : Bool) →
        P (record core { counts = lowered core.counts (semaphore ∷ []) }) → P core →
        P (trying core semaphore is_free).core
    trying-keeps core semaphore true lowers p = lowers
    trying-keeps core semaphore false lowers p = p

    getting-keeps : (core : Core) (own device : ℕ) (scanned : Scanned) →
        ((used : ℕ) → P (without_bytes core device used)) → P core →
        P (getting core own device scanned).core
    getting-keeps core own device Short drops p = ending-keeps core own (event.End own) p
    getting-keeps core own device (Bad used) drops p = ending-keeps (without_bytes core device used) own
        (event.Trap own Format) (drops used)
    getting-keeps core own device (Got used values) drops p = drops used

    taking-keeps : (core : Core) (own device : ℕ) (values : List Cell) → P (without_value core device) → P core →
        P (taking core own device values).core
    taking-keeps core own device [] drops p = ending-keeps core own (event.End own) p
    taking-keeps core own device (x ∷ later) drops p = drops

    -- every action of a task, which then is the one that acted last
    pub effect-keeps : (core : Core) (own : ℕ) (asked : Action) → BringsTo Urgent Lawful P core asked →
        MayResume (record core { last = Some own }) own →
        KeepsValues P (record core { last = Some own }) asked → P (record core { last = Some own }) → P (effect core own asked).core
    unfolding effect
    effect-keeps core own asked brings may values p = by_action asked brings values
      where
        acted : Core
        acted = record core { last = Some own }

        by_action : (asked : Action) → BringsTo Urgent Lawful P core asked → KeepsValues P acted asked →
            P (effect_of acted own asked).core
        by_action (action.Read slot) brings values = p
        by_action (action.Write slot value) brings values = values
        by_action action.Turn brings values = p
        by_action action.Enter brings values = p
        by_action action.Now brings values = p
        by_action (action.Request list) brings values = values
        by_action (action.Release list) brings values =
            releasing-keeps acted own list.items (all_below_most core.counts list.items) refl values p
        by_action (action.Try s) brings values = trying-keeps acted s (nat_lt 0 (count_at core.counts s)) values p
        by_action (action.Activate t start repeat priority) brings values =
            activated-keeps acted t start repeat (priority_or_declared core t priority) brings.0 (brings.1 acted p) p
        by_action (action.Continue t start) brings values = continues-keeps acted t start (brings acted p) p
        by_action (action.Resume start) brings values = resuming-keeps acted own start (brings acted p) may p
        by_action (action.Suspend t) brings values = mark-keeps acted t true p
        by_action (action.Terminate t) brings values = stopping-keeps acted own t p
        by_action (action.Prevent t) brings values = prevented-keeps acted t p
        by_action (action.Enable device) brings values = values
        by_action (action.Disable device) brings values = values
        by_action (action.Trigger device) brings values = interrupted-keeps acted device p
        by_action (action.Put device text) brings values = closed.told acted (event.Out device text) p
        by_action (action.Get device format kinds) brings values =
            getting-keeps acted own device (scan (items_of core format) kinds.items (bytes_at core device)) values p
        by_action (action.Take device) brings values = taking-keeps acted own device (values_at core device) values p
        by_action (action.Send device value) brings values = closed.told acted (event.Send device value) p
        by_action action.End brings values = ending-keeps acted own (event.End own) p
        by_action (action.Trap trap) brings values = ending-keeps acted own (event.Trap own trap) p

  module _ (is_free : IsFree P) where
    -- WHAT COMES IN

    -- a device's channel
    channel-keeps : (core : Core) (device : ℕ) (channel : Channel) → P core → P (with_channel core device channel)
    channel-keeps core device channel p = is_free core (with_channel core device channel)
        (only_channel core device channel) p

    pub bytes-keeps : (core : Core) (device : ℕ) (text : List ℕ) → P core → P (with_bytes core device text)
    bytes-keeps core device text p =
        either P (nat_le (length (bytes_at core device ++ text)) terminal_room) (with_channel core device (Bytes (bytes_at core device ++ text)))
        (note core (event.Lost device)) (channel-keeps core device (Bytes (bytes_at core device ++ text)) p)
        (closed.told core (event.Lost device) p)

    joined-keeps : (core : Core) (device : ℕ) (kind : Kind) (pending : List Cell) (value : Result Cell Trap) → P core →
        P (joined core device kind pending value)
    joined-keeps core device kind pending (Err trap) p = p
    joined-keeps core device kind pending (Ok x) p = channel-keeps core device (Values kind (pending ++ x ∷ [])) p

    pub value-keeps : (core : Core) (device : ℕ) (x : Cell) → P core → P (with_value core device x)
    value-keeps core device x p = by_channel (channel_of core device)
      where
        by_channel : (channel : Option Channel) → P (with_value_by channel core device x)
        by_channel (Some (Values kind pending)) =
            either P (nat_lt (length pending) input_room) (joined core device kind pending (converted x kind)) (note core (event.Lost device))
            (joined-keeps core device kind pending (converted x kind) p) (closed.told core (event.Lost device) p)
        by_channel (Some (Switch enabled)) = p
        by_channel (Some (Bytes pending)) = p
        by_channel (Some Outward) = p
        by_channel None = p

    -- an entry of a journal; one that sets the clock is asked for
    pub arrived-keeps : (core : Core) (come : Entry) →
        ((time : ℕ) → come ≡ entry.Clock time → P (record core { clock = time })) → P core →
        P (arrived core come)
    arrived-keeps core (entry.Clock time) clock p = clock time refl
    arrived-keeps core (entry.Run picks) clock p = p
    arrived-keeps core (entry.Tick milliseconds) clock p = p
    arrived-keeps core (entry.Pass times picks) clock p = p
    arrived-keeps core (entry.Irpt device) clock p = interrupted-keeps core device p
    arrived-keeps core (entry.Chars device text) clock p = bytes-keeps core device text.items p
    arrived-keeps core (entry.Line device text) clock p = bytes-keeps core device (text.items ++ 10 ∷ []) p
    arrived-keeps core (entry.Value device x) clock p = value-keeps core device x p
    arrived-keeps core (entry.Turn task) clock p = p
    arrived-keeps core entry.State clock p = p

  module _ (is_free : IsFree P) (at_ends : ClosedAtEnds P) where
    -- what an action does to values
    free_values : (core : Core) (asked : Action) → P core → KeepsValues P core asked
    free_values core (action.Write slot value) p = is_free core _ (only_slots core (slice_set core.slots slot value) (length-set core.slots slot value)) p
    free_values core (action.Request list) p =
        is_free core _ (only_counts core (lowered core.counts list.items) (lowered-length core.counts list.items)) p
    free_values core (action.Release list) p =
        λ below. is_free core _ (only_counts core (raised core.counts list.items) (raised-length core.counts list.items)) p
    free_values core (action.Try s) p =
        is_free core _ (only_counts core (lowered core.counts (s ∷ [])) (lowered-length core.counts (s ∷ []))) p
    free_values core (action.Enable device) p = channel-keeps is_free core device (Switch true) p
    free_values core (action.Disable device) p = channel-keeps is_free core device (Switch false) p
    free_values core (action.Get device format kinds) p = λ used. channel-keeps is_free core device
        (Bytes (drop used (bytes_at core device))) p
    free_values core (action.Take device) p = by_channel (channel_of core device)
      where
        by_channel : (channel : Option Channel) → P (without_value_by channel core device)
        by_channel (Some (Values kind pending)) = channel-keeps is_free core device (Values kind (drop 1 pending)) p
        by_channel (Some (Switch enabled)) = p
        by_channel (Some (Bytes pending)) = p
        by_channel (Some Outward) = p
        by_channel None = p
    free_values core other p = tt

    -- an action keeps what doesn't speak of values, nor of who acted last
    pub effect-stays : (core : Core) (own : ℕ) (asked : Action) → BringsTo Urgent Lawful P core asked →
        MayResume (record core { last = Some own }) own → P core → P (effect core own asked).core
    effect-stays core own asked brings may p =
        let acted : Core = record core { last = Some own } in
        let last : P acted = is_free core acted (only_last core (Some own)) p in
        effect-keeps at_ends core own asked brings may (free_values acted asked last) last

-- WHERE NOTHING IS ASKED OF THE MODES

abbrev AnyMode : Mode → Type 0
AnyMode mode = Unit {0}

module _ (Urgent : ℕ → Type 0) (Lawful : Plan → Type 0) where
  -- a plan to go on of a task in any mode
  in_any_mode : (mode : Mode) (plan : Option Plan) → IfSome plan Lawful → IfSome plan (Goes Lawful AnyMode mode)
  in_any_mode mode None lawful = tt
  in_any_mode mode (Some plan) lawful = (lawful, tt)

  whatever_mode : (mode : Mode) (plan : Option Plan) → IfSome plan (Goes Lawful AnyMode mode) → IfSome plan Lawful
  whatever_mode mode None goes = tt
  whatever_mode mode (Some plan) goes = goes.0

  -- what an action brings
  brings_to : (P : Core → Type 0) (core : Core) (asked : Action) → Brings Urgent Lawful core asked →
      BringsTo Urgent Lawful P core asked
  brings_to P core (action.Activate t start repeat priority) brings = (brings.0, λ now p. brings.1 now)
  brings_to P core (action.Continue t start) brings = λ now p. brings now
  brings_to P core (action.Resume start) brings = λ now p. brings now
  brings_to P core other brings = tt

  module _ (P : Core → Type 0) (closed : Closed Urgent Lawful P) where
    closed_for : ClosedFor Urgent Lawful AnyMode P
    closed_for = record {
      told = closed.told;
      stands = closed.stands;
      goes_on = λ core t row plan at goes p. closed.goes_on core t row plan at (whatever_mode row.mode plan goes) p;
      starts = closed.starts;
      going = λ core t row at p. in_any_mode row.mode row.continuation (closed.going core t row at p);
      starting = closed.starting;
      keeping = closed.keeping;
      begins = λ core plan p lawful. closed.begins core plan lawful;
      active = λ mode is. tt;
    }

    pub mark-kept : (core : Core) (t : ℕ) (suspended : Bool) → P core → P (with_mark core t suspended)
    mark-kept = mark-keeps Urgent Lawful AnyMode P closed_for

    pub millisecond-kept : (core : Core) → P (record core { moment = core.moment + 1 }) → P (millisecond core)
    millisecond-kept = millisecond-keeps Urgent Lawful AnyMode P closed_for

    pub interrupted-kept : (core : Core) (device : ℕ) → P core → P (interrupted core device)
    interrupted-kept = interrupted-keeps Urgent Lawful AnyMode P closed_for

    pub activated-kept : (core : Core) (t : ℕ) (start : Start) (repeat : Repeat) (priority : ℕ) →
        ((row : TaskRow) → row_of core t ≡ Some row → Urgent priority) → Lawful (planned core start repeat) → P core →
        P (activated core t start repeat priority)
    activated-kept = activated-keeps Urgent Lawful AnyMode P closed_for

    pub continues-kept : (core : Core) (t : ℕ) (start : Start) → Lawful (planned core start Once) → P core →
        P (continues core t start)
    continues-kept = continues-keeps Urgent Lawful AnyMode P closed_for

    pub resuming-kept : (core : Core) (own : ℕ) (start : Start) → Lawful (planned core start Once) → P core →
        P (resuming core own start)
    resuming-kept core own start lawful p = resuming-keeps Urgent Lawful AnyMode P closed_for core own start lawful
        (λ row at. tt) p

    -- every action of a task, which then is the one that acted last
    pub effect-kept : (at_ends : ClosedAtEnds P) (core : Core) (own : ℕ) (asked : Action) →
        Brings Urgent Lawful core asked →
        KeepsValues P (record core { last = Some own }) asked → P (record core { last = Some own }) →
        P (effect core own asked).core
    effect-kept at_ends core own asked brings values p = effect-keeps Urgent Lawful AnyMode P closed_for at_ends core own asked
        (brings_to P core asked brings) (λ row at. tt) values p

    pub bytes-kept : (is_free : IsFree P) (core : Core) (device : ℕ) (text : List ℕ) → P core →
        P (with_bytes core device text)
    bytes-kept = bytes-keeps Urgent Lawful AnyMode P closed_for

    pub value-kept : (is_free : IsFree P) (core : Core) (device : ℕ) (x : Cell) → P core → P (with_value core device x)
    value-kept = value-keeps Urgent Lawful AnyMode P closed_for

    pub arrived-kept : (is_free : IsFree P) (core : Core) (come : Entry) →
        ((time : ℕ) → come ≡ entry.Clock time → P (record core { clock = time })) → P core → P (arrived core come)
    arrived-kept = arrived-keeps Urgent Lawful AnyMode P closed_for

    -- an action keeps what doesn't speak of values, nor of who acted last
    pub effect-free : (is_free : IsFree P) (at_ends : ClosedAtEnds P) (core : Core) (own : ℕ) (asked : Action) →
        Brings Urgent Lawful core asked → P core → P (effect core own asked).core
    effect-free is_free at_ends core own asked brings p = effect-stays Urgent Lawful AnyMode P closed_for is_free at_ends core own asked
        (brings_to P core asked brings) (λ row at. tt) p
