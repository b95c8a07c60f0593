-- What one task's plans do to its row, in one step.
use Rattle.std.proofs.Common.{◌≡◌, ℕ, zero, suc, List, [], ◌∷◌, ◌++◌, Bool, true, false, if◌then◌else◌, Option, Some, None, unwrap_or, length, slice_get, slice_set, refl, sym, ap, ◌∙◌, append-nil}
use Rattle.std.proofs.lemmas.Option.{same_Some}
use Rattle.pearl_rules.specs.declared.event.Event.{Event}
use Rattle.pearl_rules.specs.declared.event.Event.TheVariants as event
use Rattle.pearl_rules.specs.declared.row.Kept.{Kept}
use Rattle.pearl_rules.specs.declared.row.Kept.TheVariants as kept
use Rattle.pearl_rules.specs.declared.row.Mode.{Mode}
use Rattle.pearl_rules.specs.declared.row.Mode.TheVariants.{Dormant, Active}
use Rattle.pearl_rules.specs.declared.row.Plan.{Plan}
use Rattle.pearl_rules.specs.declared.row.Activation.{Activation}
use Rattle.pearl_rules.specs.declared.row.TaskRow.{TaskRow}
use Rattle.pearl_rules.specs.Core.{Core, note, row_of, with_row, mode_of_row, mode_of}
use Rattle.pearl_rules.specs.Plans.{on_row, changed_row, priorities, and_one, kept_in, late_by, with_continuation, continuation_in, activation_in, started_by, started, marked_mode, with_mark, serves_if, continued, serve_continuation, serve_activation_by, serve_activation, plan_continuation, plan_activation}
use Rattle.pearl_rules.specs.Laws.{happened_at}
use Rattle.pearl_rules.proofs.Offered.{set-same, set-other}
use Rattle.pearl_rules_laws.specs.Plans.{ChangesRow, mode_after, kept_after, late_event, start_events, starts_now}

-- the core with these events told now
abbrev pub tells : Core → List Event → Core
tells core events = record core { told = core.told ++ happened_at core.moment events }

-- no event
pub tells_none : (core : Core) → core ≡ tells core []
tells_none core = ap (λ told. let c : Core = record core { told = told } in c) (sym (append-nil core.told))

-- what is written where it stands
set-here : {X : Type 0} (xs : List X) (i : ℕ) (x : X) → slice_get xs i ≡ Some x → slice_set xs i x ≡ xs
set-here [] i x at = refl
set-here (first ∷ xs) zero x at = ap (λ y. y ∷ xs) (sym (same_Some first x at))
set-here (first ∷ xs) (suc i) x at = ap (λ ys. first ∷ ys) (set-here xs i x at)

-- what is written twice
set-twice : {X : Type 0} (xs : List X) (i : ℕ) (x y : X) → slice_set (slice_set xs i x) i y ≡ slice_set xs i y
set-twice [] i x y = refl
set-twice (first ∷ xs) zero x y = refl
set-twice (first ∷ xs) (suc i) x y = ap (λ ys. first ∷ ys) (set-twice xs i x y)

-- a row is written, and events are told
pub step_changes : (core : Core) (t : ℕ) (row changed : TaskRow) (events : List Event) → row_of core t ≡ Some row →
    ChangesRow core (tells (with_row core t changed) events) t changed events
step_changes core t row changed events at = record {
  this = set-same core.tasks t row changed at;
  others = λ u differ. set-other core.tasks t u changed differ;
  rest = refl;
}

module _ (core : Core) (t : ℕ) (row : TaskRow) (at : row_of core t ≡ Some row) where
  -- the same row
  pub same_row : with_row core t row ≡ core
  same_row = ap (λ rows. let c : Core = record core { tasks = rows } in c) (set-here core.tasks t row at)

  -- a row that is there is changed
  pub row_changed : (change : TaskRow → TaskRow) → changed_row core t change ≡ with_row core t (change row)
  row_changed change = ap (λ found. on_row found core (λ r. with_row core t (change r))) at

  pub row_there : (changed : TaskRow) → row_of (with_row core t changed) t ≡ Some changed
  row_there changed = set-same core.tasks t row changed at

-- a row that is written twice
pub row_twice : (core : Core) (t : ℕ) (first second : TaskRow) → with_row (with_row core t first) t second ≡ with_row core t second
row_twice core t first second = ap (λ rows. let c : Core = record core { tasks = rows } in c) (set-twice core.tasks t first second)

-- MARKS AND STARTS

-- the row of a task that goes on, where it does
abbrev pub went_on : Bool → TaskRow → TaskRow
went_on goes_on row = record row {
  mode = mode_after goes_on None row.mode;
  continuation = if goes_on then None else row.continuation;
}

-- the row of a task that is started, where it is
abbrev pub began : Option ℕ → TaskRow → TaskRow
began starts row = record row { mode = mode_after false starts row.mode; kept = kept_after starts row.mode row.kept }

mode_goes : (mode : Mode) → marked_mode false mode ≡ mode_after true None mode
mode_goes Dormant = refl
mode_goes (Active priority suspended) = refl

pub mode_stays : (mode : Mode) → mode_after false None mode ≡ mode
mode_stays Dormant = refl
mode_stays (Active priority suspended) = refl

module _ (core : Core) (t : ℕ) (row : TaskRow) (at : row_of core t ≡ Some row) where
  pub mark_is : (suspended : Bool) → with_mark core t suspended ≡ with_row core t (record row { mode = marked_mode suspended row.mode })
  mark_is suspended =
      row_changed core t row at (λ r. record r { mode = marked_mode suspended (mode_of core t) })
      ∙ ap (λ mode. with_row core t (record row { mode = marked_mode suspended mode })) (ap mode_of_row at)

  continued_is : continued core t ≡ with_row core t (went_on true row)
  continued_is =
      ap (λ c. with_continuation c t None) (mark_is false)
      ∙ row_changed (with_row core t marked) t marked (row_there core t row at marked) (λ r. record r { continuation = None })
      ∙ row_twice core t marked (record marked { continuation = None })
      ∙ ap (λ mode. with_row core t (record row { mode = mode; continuation = None })) (mode_goes row.mode)
    where
      marked : TaskRow
      marked = record row { mode = marked_mode false row.mode }

  pub serve_continuation_is : serve_continuation core t ≡ with_row core t (went_on (serves_if core row.continuation) row)
  serve_continuation_is =
      ap (λ plan. if serves_if core plan then continued core t else core) (ap continuation_in at) ∙ by_test (serves_if core row.continuation)
    where
      by_test : (b : Bool) → (if b then continued core t else core) ≡ with_row core t (went_on b row)
      by_test true = continued_is
      by_test false =
          sym (same_row core t row at) ∙ ap (λ mode. with_row core t (record row { mode = mode })) (sym (mode_stays row.mode))

  pub started_is : (priority : ℕ) → started core t priority
      ≡ tells (with_row core t (began (Some priority) row)) (start_events t (Some priority) row.mode row.kept)
  started_is priority = ap (λ mode. started_by mode core t priority) (ap mode_of_row at) ∙ by_mode row.mode refl
    where
      by_mode : (mode : Mode) → row.mode ≡ mode → started_by mode core t priority
          ≡ tells (with_row core t (record row { mode = mode_after false (Some priority) mode; kept = kept_after (Some priority) mode row.kept }))
          (start_events t (Some priority) mode row.kept)
      by_mode Dormant is =
          ap (λ c. note c (event.Start t priority)) (row_changed core t row at (λ r. record r { mode = Active priority false; kept = kept.Nothing }))
      by_mode (Active own suspended) is =
          ap (λ held. late_by (and_one held priority) core t) (ap kept_in at) ∙ by_more (and_one row.kept priority)
        where
          by_more : (more : Option Kept) → late_by more core t
              ≡ tells (with_row core t (record row { mode = Active own suspended; kept = unwrap_or more row.kept })) (late_event t more ∷ [])
          by_more None =
              ap (λ c. note c (event.Overrun t)) (sym (same_row core t row at) ∙ ap (λ mode. with_row core t (record row { mode = mode })) is)
          by_more (Some more) =
              ap (λ c. note c (event.Kept t (length (priorities more))))
              (row_changed core t row at (λ r. record r { kept = more }) ∙ ap (λ mode. with_row core t (record row { mode = mode; kept = more })) is)

  pub serve_activation_is : serve_activation core t
      ≡ tells (with_row core t (began (starts_now core row.activation) row)) (start_events t (starts_now core row.activation) row.mode row.kept)
  serve_activation_is = ap (λ plan. serve_activation_by plan core t) (ap activation_in at) ∙ by_plan row.activation
    where
      nothing : core ≡ tells (with_row core t (began None row)) []
      nothing =
          tells_none core ∙ ap (λ c. tells c []) (sym (same_row core t row at) ∙ ap (λ mode. with_row core t (record row { mode = mode })) (sym (mode_stays row.mode)))

      by_test : (b : Bool) (priority : ℕ) → (if b then started core t priority else core)
          ≡ tells (with_row core t (began (if b then Some priority else None) row))
          (start_events t (if b then Some priority else None) row.mode row.kept)
      by_test true priority = started_is priority
      by_test false priority = nothing

      by_plan : (plan : Option Activation) → serve_activation_by plan core t
          ≡ tells (with_row core t (began (starts_now core plan) row)) (start_events t (starts_now core plan) row.mode row.kept)
      by_plan None = nothing
      by_plan (Some plan) = by_test (serves_if core (Some plan.plan)) plan.priority

-- NEW PLANS

module _ (core : Core) (t : ℕ) (row : TaskRow) (at : row_of core t ≡ Some row) where
  -- a new plan to go on
  pub plan_continuation_is : (plan : Plan) → plan_continuation core t plan
      ≡ with_row core t (went_on (serves_if core (Some plan)) (record row { continuation = Some plan }))
  plan_continuation_is plan =
      let planned : TaskRow = record row { continuation = Some plan } in
      ap (λ c. serve_continuation c t) (row_changed core t row at (λ r. record r { continuation = Some plan }))
      ∙ serve_continuation_is (with_row core t planned) t planned (row_there core t row at planned)
      ∙ row_twice core t planned (went_on (serves_if core (Some plan)) planned)

  -- a new plan to be started
  pub plan_activation_is : (plan : Activation) → plan_activation core t plan
      ≡ tells (with_row core t (began (starts_now core (Some plan)) (record row { activation = Some plan })))
      (start_events t (starts_now core (Some plan)) row.mode row.kept)
  plan_activation_is plan =
      let planned : TaskRow = record row { activation = Some plan } in
      ap (λ c. serve_activation c t) (row_changed core t row at (λ r. record r { activation = Some plan }))
      ∙ serve_activation_is (with_row core t planned) t planned (row_there core t row at planned)
      ∙ ap (λ c. tells c (start_events t (starts_now core (Some plan)) row.mode row.kept)) (row_twice core t planned (began (starts_now core (Some plan)) planned))
