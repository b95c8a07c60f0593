-- What a millisecond and an occurring interrupt do to all tasks.
use Rattle.std.proofs.Common.{◌≡◌, ℕ, zero, suc, ◌+◌, ◌-◌, ◌%◌, ◌≤◌, List, [], ◌∷◌, ◌++◌, Bool, true, false, ◌&&◌, if◌then◌else◌, Option, Some, None, map, length, slice_get, slice_set, refl, sym, ap, ap₂, ◌∙◌, append-nil, append_assoc, add-zero, zero-add, arith}
use Rattle.std.proofs.lemmas.Option.{none-some, same_Some}
use Rattle.pearl_rules.specs.Series.{fires_if}
use Rattle.pearl_rules.specs.declared.row.End.{End}
use Rattle.pearl_rules.specs.declared.row.End.TheVariants as end
use Rattle.pearl_rules.specs.declared.event.Event.{Event}
use Rattle.pearl_rules.specs.declared.row.Kept.{Kept}
use Rattle.pearl_rules.specs.declared.row.Mode.{Mode}
use Rattle.pearl_rules.specs.declared.row.Mode.TheVariants.{Dormant, Active}
use Rattle.pearl_rules.specs.declared.row.Plan.{Plan}
use Rattle.pearl_rules.specs.declared.row.Activation.{Activation}
use Rattle.pearl_rules.specs.declared.row.TaskRow.{TaskRow}
use Rattle.pearl_rules.specs.Core.{Core, Happened, note, row_of, with_row}
use Rattle.pearl_rules.specs.Plans.{day, next_at, last_moment, series_from, continuation_in, activation_in, activation_of, begun, waits_for, serves_if, serve_activation, plan_continuation, plan_activation, each_task, served, millisecond, begin_continuation, begin_activation, continuation_began, reached, occurred}
use Rattle.pearl_rules.specs.Devices.{is_enabled, interrupted}
use Rattle.pearl_rules.specs.declared.event.Event.TheVariants as event
use Rattle.pearl_rules.specs.Laws.{happened_at}
use Rattle.pearl_rules.proofs.Offered.{there_at}
use Rattle.pearl_rules_laws.specs.Plans.{mode_after, kept_after, start_events, all_start_events, starts_now, served_row, served_events, serves_after, goes_after, starts_after, continuation_after, activation_after, reached_row, reached_events}
use Rattle.pearl_rules_laws.proofs.Steps.{tells, tells_none, same_row, row_there, row_twice, mode_stays, went_on, began, serve_continuation_is, serve_activation_is, plan_continuation_is, plan_activation_is}

-- ONE TASK

-- a task that goes on and is then started
mode_twice : (goes_on : Bool) (starts : Option ℕ) (mode : Mode) → mode_after false starts (mode_after goes_on None mode) ≡ mode_after goes_on starts mode
mode_twice goes_on None Dormant = refl
mode_twice goes_on (Some p) Dormant = refl
mode_twice true None (Active priority suspended) = refl
mode_twice true (Some p) (Active priority suspended) = refl
mode_twice false None (Active priority suspended) = refl
mode_twice false (Some p) (Active priority suspended) = refl

-- tells the same
events_twice : (t : ℕ) (goes_on : Bool) (starts : Option ℕ) (mode : Mode) (held : Kept) →
    start_events t starts (mode_after goes_on None mode) held ≡ start_events t starts mode held
events_twice t goes_on None mode held = refl
events_twice t goes_on (Some p) Dormant held = refl
events_twice t true (Some p) (Active priority suspended) held = refl
events_twice t false (Some p) (Active priority suspended) held = refl

-- and keeps the same
kept_twice : (goes_on : Bool) (starts : Option ℕ) (mode : Mode) (held : Kept) →
    kept_after starts (mode_after goes_on None mode) held ≡ kept_after starts mode held
kept_twice goes_on None mode held = refl
kept_twice goes_on (Some p) Dormant held = refl
kept_twice true (Some p) (Active priority suspended) held = refl
kept_twice false (Some p) (Active priority suspended) held = refl

-- the row and the events of a task that goes on and is then started
both_steps : (core : Core) (t : ℕ) (row : TaskRow) (goes_on : Bool) (starts : Option ℕ) →
    tells (with_row core t (record row {
      mode = mode_after false starts (mode_after goes_on None row.mode);
      kept = kept_after starts (mode_after goes_on None row.mode) row.kept;
    })) (start_events t starts (mode_after goes_on None row.mode) row.kept)
    ≡ tells (with_row core t (record row { mode = mode_after goes_on starts row.mode; kept = kept_after starts row.mode row.kept }))
    (start_events t starts row.mode row.kept)
both_steps core t row goes_on starts =
    ap₂ (λ mode held. tells (with_row core t (record row { mode = mode; kept = held }))
    (start_events t starts (mode_after goes_on None row.mode) row.kept)) (mode_twice goes_on starts row.mode)
    (kept_twice goes_on starts row.mode row.kept)
    ∙ ap (λ events. tells (with_row core t (record row { mode = mode_after goes_on starts row.mode; kept = kept_after starts row.mode row.kept })) events)
    (events_twice t goes_on starts row.mode row.kept)

module _ (core : Core) (t : ℕ) (row : TaskRow) (at : row_of core t ≡ Some row) where
  -- the plans of a task that fire now serve
  served_is : served core t ≡ tells (with_row core t (served_row core row)) (start_events t (starts_now core row.activation) row.mode row.kept)
  served_is =
      let goes_on = serves_if core row.continuation in
      let gone = went_on goes_on row in
      ap (λ c. serve_activation c t) (serve_continuation_is core t row at)
      ∙ serve_activation_is (with_row core t gone) t gone (row_there core t row at gone)
      ∙ ap (λ c. tells c (start_events t (starts_now core row.activation) gone.mode gone.kept)) (row_twice core t gone (began (starts_now core row.activation) gone))
      ∙ both_steps core t (record row { continuation = if goes_on then None else row.continuation }) goes_on (starts_now core row.activation)

  module _ (interrupt : ℕ) where
    -- the row of a task whose plan to go on was reached
    abbrev gone_row : Option Plan → TaskRow
    gone_row plan = record row {
      mode = mode_after (goes_after core interrupt plan) None row.mode;
      continuation = continuation_after core interrupt plan;
    }

    continuation_began_is : continuation_began interrupt core t ≡ with_row core t (gone_row row.continuation)
    continuation_began_is = ap (λ plan. begin_continuation interrupt plan core t) (ap continuation_in at) ∙ by_plan row.continuation refl
      where
        same : (plan : Option Plan) → row.continuation ≡ plan → core ≡ with_row core t (record row { mode = mode_after false None row.mode; continuation = plan })
        same plan is =
            sym (same_row core t row at)
            ∙ ap₂ (λ mode plan. with_row core t (record row { mode = mode; continuation = plan })) (sym (mode_stays row.mode)) is

        by_test : (waits : Bool) (plan : Plan) → row.continuation ≡ Some plan →
            (if waits then plan_continuation core t (begun core plan) else core)
            ≡ with_row core t (record row {
              mode = mode_after (waits && serves_if core (Some (begun core plan))) None row.mode;
              continuation = if waits && serves_if core (Some (begun core plan)) then None else Some (if waits then begun core plan else plan);
            })
        by_test true plan is = plan_continuation_is core t row at (begun core plan)
        by_test false plan is = same (Some plan) is

        by_plan : (plan : Option Plan) → row.continuation ≡ plan → begin_continuation interrupt plan core t ≡ with_row core t (gone_row plan)
        by_plan None is = same None is
        by_plan (Some plan) is = by_test (waits_for interrupt plan.when) plan is

    activation_began_is : begin_activation interrupt (activation_of core t) core t
        ≡ tells (with_row core t (record row {
          mode = mode_after false (starts_after core interrupt row.activation) row.mode;
          kept = kept_after (starts_after core interrupt row.activation) row.mode row.kept;
          activation = activation_after core interrupt row.activation;
        })) (start_events t (starts_after core interrupt row.activation) row.mode row.kept)
    activation_began_is = ap (λ plan. begin_activation interrupt plan core t) (ap activation_in at) ∙ by_plan row.activation refl
      where
        same : (plan : Option Activation) → row.activation ≡ plan →
            core ≡ tells (with_row core t (record row { mode = mode_after false None row.mode; activation = plan })) []
        same plan is =
            tells_none core
            ∙ ap (λ c. tells c []) (sym (same_row core t row at)
            ∙ ap₂ (λ mode plan. with_row core t (record row { mode = mode; activation = plan })) (sym (mode_stays row.mode)) is)

        by_test : (waits : Bool) (plan : Activation) → row.activation ≡ Some plan →
            (if waits then plan_activation core t (record plan { plan = begun core plan.plan }) else core)
            ≡ tells (with_row core t (record row {
              mode = mode_after false (if waits && serves_if core (Some (begun core plan.plan)) then Some plan.priority else None) row.mode;
              kept = kept_after (if waits && serves_if core (Some (begun core plan.plan)) then Some plan.priority else None) row.mode row.kept;
              activation = Some (record plan { plan = if waits then begun core plan.plan else plan.plan });
            })) (start_events t (if waits && serves_if core (Some (begun core plan.plan)) then Some plan.priority else None) row.mode row.kept)
        by_test true plan is = plan_activation_is core t row at (record plan { plan = begun core plan.plan })
        by_test false plan is = same (Some plan) is

        by_plan : (plan : Option Activation) → row.activation ≡ plan → begin_activation interrupt plan core t
            ≡ tells (with_row core t (record row {
              mode = mode_after false (starts_after core interrupt plan) row.mode;
              kept = kept_after (starts_after core interrupt plan) row.mode row.kept;
              activation = activation_after core interrupt plan;
            })) (start_events t (starts_after core interrupt plan) row.mode row.kept)
        by_plan None is = same None is
        by_plan (Some plan) is = by_test (waits_for interrupt plan.plan.when) plan is

-- an interrupt reaches a task
reached_is : (core : Core) (t : ℕ) (row : TaskRow) → row_of core t ≡ Some row → (interrupt : ℕ) → reached interrupt core t
    ≡ tells (with_row core t (reached_row core interrupt row)) (start_events t (starts_after core interrupt row.activation) row.mode row.kept)
reached_is core t row at interrupt =
    ap (λ c. begin_activation interrupt (activation_of c t) c t) (continuation_began_is core t row at interrupt)
    ∙ activation_began_is (with_row core t gone) t gone (row_there core t row at gone) interrupt
    ∙ ap (λ c. tells c (start_events t starts gone.mode gone.kept))
    (row_twice core t gone (record gone {
      mode = mode_after false starts gone.mode;
      kept = kept_after starts gone.mode gone.kept;
      activation = activation_after core interrupt row.activation;
    }))
    ∙ both_steps core t (record row {
      continuation = continuation_after core interrupt row.continuation;
      activation = activation_after core interrupt row.activation;
    }) (goes_after core interrupt row.continuation) starts
  where
    gone : TaskRow
    gone = gone_row core t row at interrupt row.continuation

    starts : Option ℕ
    starts = starts_after core interrupt row.activation

-- ALL TASKS

-- what happened at one moment, in two parts
pub happened_join : (moment : ℕ) (xs ys : List Event) → happened_at moment (xs ++ ys) ≡ happened_at moment xs ++ happened_at moment ys
happened_join moment [] ys = refl
happened_join moment (x ∷ xs) ys = ap (λ rest. (moment, Happened x) ∷ rest) (happened_join moment xs ys)

module _ (change : TaskRow → TaskRow) (events : ℕ → TaskRow → List Event) where
  -- the first n rows are changed
  abbrev first_rows : ℕ → List TaskRow → List TaskRow
  first_rows zero rows = rows
  first_rows (suc n) [] = []
  first_rows (suc n) (row ∷ rows) = change row ∷ first_rows n rows

  -- the events of the first n tasks, the first having the number t
  abbrev first_events_of : (n t : ℕ) → List TaskRow → List Event
  first_events_of zero t rows = []
  first_events_of (suc n) t [] = []
  first_events_of (suc n) t (row ∷ rows) = events t row ++ first_events_of n (t + 1) rows

  -- row n is as it was while the first n have changed
  next_row : (n : ℕ) (rows : List TaskRow) → slice_get (first_rows n rows) n ≡ slice_get rows n
  next_row zero rows = refl
  next_row (suc n) [] = refl
  next_row (suc n) (row ∷ rows) = next_row n rows

  -- and then it changes
  next_rows : (n : ℕ) (rows : List TaskRow) (row : TaskRow) → slice_get rows n ≡ Some row →
      slice_set (first_rows n rows) n (change row) ≡ first_rows (suc n) rows
  next_rows n [] row at = absurd (none-some row at)
  next_rows zero (first ∷ rows) row at = ap (λ r. change r ∷ rows) (sym (same_Some first row at))
  next_rows (suc n) (first ∷ rows) row at = ap (λ rs. change first ∷ rs) (next_rows n rows row at)

  next_events : (n t : ℕ) (rows : List TaskRow) (row : TaskRow) → slice_get rows n ≡ Some row →
      first_events_of (suc n) t rows ≡ first_events_of n t rows ++ events (t + n) row
  next_events n t [] row at = absurd (none-some row at)
  next_events zero t (first ∷ rows) row at =
      append-nil (events t first) ∙ ap₂ (λ u r. events u r) (sym (add-zero t)) (same_Some first row at)
  next_events (suc n) t (first ∷ rows) row at =
      let e : (t + 1) + n ≡ t + suc n = omega arith in
      ap (λ es. events t first ++ es) (next_events n (t + 1) rows row at ∙ ap (λ u. first_events_of n (t + 1) rows ++ events u row) e)
      ∙ sym (append_assoc (events t first) (first_events_of n (t + 1) rows) (events (t + suc n) row))

  -- all rows
  all_rows : (rows : List TaskRow) → first_rows (length rows) rows ≡ map change rows
  all_rows [] = refl
  all_rows (row ∷ rows) = ap (λ rs. change row ∷ rs) (all_rows rows)

  module _ (step : Core → ℕ → Core) (base : Core)
      (is : (core : Core) (t : ℕ) (row : TaskRow) → core.moment ≡ base.moment → core.clock ≡ base.clock → row_of core t ≡ Some row →
      step core t ≡ tells (with_row core t (change row)) (events t row)) where
    -- after the first n tasks
    abbrev after : ℕ → Core
    after n = record base {
      tasks = first_rows n base.tasks;
      told = base.told ++ happened_at base.moment (first_events_of n 0 base.tasks);
    }

    each_is : (n : ℕ) → n ≤ length base.tasks → each_task step n base ≡ after n
    each_is zero within = ap (λ told. let c : Core = record base { told = told } in c) (sym (append-nil base.told))
    each_is (suc n) within =
        let at = there_at base.tasks n (omega (arith, within)) in
        let row = at.0 in
        let before = first_events_of n 0 base.tasks in
        ap (λ c. step c n) (each_is n (omega (arith, within)))
        ∙ is (after n) n row refl refl (next_row n base.tasks ∙ at.1)
        ∙ ap₂ (λ rows told. let c : Core = record base { tasks = rows; told = told } in c) (next_rows n base.tasks row at.1)
        (append_assoc base.told (happened_at base.moment before) (happened_at base.moment (events n row))
        ∙ ap (λ more. base.told ++ more) (sym (happened_join base.moment before (events n row))
        ∙ ap (λ es. happened_at base.moment es)
        (ap (λ u. before ++ events u row) (sym (zero-add n)) ∙ sym (next_events n 0 base.tasks row at.1))))

-- what all tell, where each is to be started so
all_told : (change : TaskRow → TaskRow) (starts : TaskRow → Option ℕ) (t : ℕ) (rows : List TaskRow) →
    first_events_of change (λ t row. start_events t (starts row) row.mode row.kept) (length rows) t rows ≡ all_start_events starts t rows
all_told change starts t [] = refl
all_told change starts t (row ∷ rows) = ap (λ es. start_events t (starts row) row.mode row.kept ++ es) (all_told change starts (t + 1) rows)

-- MILLISECONDS

-- the core one millisecond later, before any plan serves
abbrev later : Core → Core
later core = record core { moment = core.moment + 1 }

pub millisecond_is : (core : Core) → millisecond core ≡ record core {
  moment = core.moment + 1;
  tasks = map (served_row (later core)) core.tasks;
  told = core.told ++ happened_at (core.moment + 1) (served_events (later core) 0 core.tasks);
}
millisecond_is core =
    each_is (served_row (later core)) (λ t row. start_events t (starts_now (later core) row.activation) row.mode row.kept) served (later core) is
    (length core.tasks) (omega arith)
    ∙ ap₂ (λ rows es. let c : Core = record (later core) { tasks = rows; told = core.told ++ happened_at (core.moment + 1) es } in c)
    (all_rows (served_row (later core)) (λ t row. start_events t (starts_now (later core) row.activation) row.mode row.kept) core.tasks)
    (all_told (served_row (later core)) (λ row. starts_now (later core) row.activation) 0 core.tasks)
  where
    -- at the same moment the same plans fire
    is : (now : Core) (t : ℕ) (row : TaskRow) → now.moment ≡ core.moment + 1 → now.clock ≡ core.clock → row_of now t ≡ Some row →
        served now t ≡ tells (with_row now t (served_row (later core) row)) (start_events t (starts_now (later core) row.activation) row.mode row.kept)
    is now t row moment clock at =
        served_is now t row at
        ∙ ap₂ (λ goes_on starts. tells (with_row now t (record row {
          mode = mode_after goes_on starts row.mode;
          kept = kept_after starts row.mode row.kept;
          continuation = if goes_on then None else row.continuation;
        })) (start_events t starts row.mode row.kept)) (same_serves row.continuation) (same_starts row.activation)
      where
        same_serves : (plan : Option Plan) → serves_if now plan ≡ serves_if (later core) plan
        same_serves None = refl
        same_serves (Some plan) = ap (fires_if plan.series) moment

        same_starts : (plan : Option Activation) → starts_now now plan ≡ starts_now (later core) plan
        same_starts None = refl
        same_starts (Some plan) = ap (λ b. if b then Some plan.priority else None) (same_serves (Some plan.plan))

-- INTERRUPTS

-- at the same moment and with the same clock the same series begin
module _ (now core : Core) (moment : now.moment ≡ core.moment) (clock : now.clock ≡ core.clock) where
  same_next : (time from : ℕ) → next_at now time from ≡ next_at core time from
  same_next time from = ap (λ start. from + (time + (day - (start + from) % day)) % day) clock

  same_last : (first : ℕ) (e : End) → last_moment now first e ≡ last_moment core first e
  same_last first end.Never = refl
  same_last first (end.Until time) = same_next time first
  same_last first (end.During time) = refl

  same_begun : (plan : Plan) → begun now plan ≡ begun core plan
  same_begun plan =
      ap (λ m. record plan { series = Some (series_from now (m + plan.after) plan) }) moment
      ∙ ap (λ last. record plan {
        series = Some
            (record { first = core.moment + plan.after; period = plan.period; last = last });
      })
      (same_last (core.moment + plan.after) plan.end)

  -- and the same serve
  same_after : (interrupt : ℕ) (plan : Plan) → serves_after now interrupt plan ≡ serves_after core interrupt plan
  same_after interrupt plan = ap₂ (λ begins m. waits_for interrupt plan.when && fires_if begins.series m)
      (same_begun plan) moment

  same_row_after : (interrupt : ℕ) (row : TaskRow) → reached_row now interrupt row ≡ reached_row core interrupt row
  same_row_after interrupt row = cc (goes row.continuation, starts row.activation, continues row.continuation, activates row.activation)
    where
      goes : (plan : Option Plan) → goes_after now interrupt plan ≡ goes_after core interrupt plan
      goes None = refl
      goes (Some plan) = same_after interrupt plan

      continues : (plan : Option Plan) → continuation_after now interrupt plan ≡ continuation_after core interrupt plan
      continues None = refl
      continues (Some plan) =
          ap₂ (λ b begins. if b then None else Some (if waits_for interrupt plan.when then begins else plan))
          (same_after interrupt plan) (same_begun plan)

      activates : (plan : Option Activation) → activation_after now interrupt plan ≡ activation_after core interrupt plan
      activates None = refl
      activates (Some activation) =
          ap (λ begins. Some (record activation { plan = if waits_for interrupt activation.plan.when then begins else activation.plan }))
          (same_begun activation.plan)

      starts : (plan : Option Activation) → starts_after now interrupt plan ≡ starts_after core interrupt plan
      starts None = refl
      starts (Some activation) = ap (λ b. if b then Some activation.priority else None) (same_after interrupt activation.plan)

  same_starts_after : (interrupt : ℕ) (plan : Option Activation) → starts_after now interrupt plan ≡ starts_after core interrupt plan
  same_starts_after interrupt None = refl
  same_starts_after interrupt (Some activation) = ap (λ b. if b then Some activation.priority else None) (same_after interrupt activation.plan)

-- an interrupt that is let through
pub occurred_is : (core : Core) (interrupt : ℕ) → is_enabled core interrupt ≡ true → interrupted core interrupt ≡ record core {
  tasks = map (reached_row core interrupt) core.tasks;
  told = core.told ++ happened_at core.moment (reached_events core interrupt 0 core.tasks);
}
occurred_is core interrupt enabled =
    ap (λ b. if b then occurred core interrupt else note core (event.Masked interrupt)) enabled
    ∙ each_is (reached_row core interrupt) (λ t row. start_events t (starts_after core interrupt row.activation) row.mode row.kept) (reached interrupt) core is
    (length core.tasks) (omega arith)
    ∙ ap₂ (λ rows es. let c : Core = record core { tasks = rows; told = core.told ++ happened_at core.moment es } in c)
    (all_rows (reached_row core interrupt) (λ t row. start_events t (starts_after core interrupt row.activation) row.mode row.kept) core.tasks)
    (all_told (reached_row core interrupt) (λ row. starts_after core interrupt row.activation) 0 core.tasks)
  where
    is : (now : Core) (t : ℕ) (row : TaskRow) → now.moment ≡ core.moment → now.clock ≡ core.clock → row_of now t ≡ Some row →
        reached interrupt now t
        ≡ tells (with_row now t (reached_row core interrupt row)) (start_events t (starts_after core interrupt row.activation) row.mode row.kept)
    is now t row moment clock at =
        reached_is now t row at interrupt
        ∙ ap₂ (λ changed starts. tells (with_row now t changed) (start_events t starts row.mode row.kept)) (same_row_after now core moment clock interrupt row)
        (same_starts_after now core moment clock interrupt row.activation)
