-- What becomes of the starts that tasks keep.
use Rattle.std.proofs.Common.{◌≡◌, ◌⊎◌, inl, inr, ℕ, ◌+◌, List, [], ◌∷◌, ◌++◌, Bool, true, false, nat_eq, nat_le, nat_lt, if◌then◌else◌, Option, Some, None, option_map, Result, Ok, Err, map, length, slice_get, refl, sym, ap, subst, ◌∙◌, eqb-true, zero-add, arith}
use Rattle.std.specs.List.{Contains}
use Rattle.std.proofs.lemmas.Bool.{eqb-false}
use Rattle.std.proofs.lemmas.Option.{slice_get-map}
use Rattle.pearl_value.specs.declared.cell.Cell.{Cell}
use Rattle.pearl_value.specs.declared.kind.Kind.{Kind}
use Rattle.pearl_value.specs.declared.trap.Trap.{Trap}
use Rattle.pearl_value.specs.declared.trap.Trap.TheVariants.{SemaLimit, Format}
use Rattle.pearl_value.specs.Conversions.{converted}
use Rattle.pearl_rules.specs.declared.action.Action.{Action}
use Rattle.pearl_rules.specs.declared.action.Action.TheVariants as action
use Rattle.pearl_rules.specs.declared.action.Start.{Start}
use Rattle.pearl_rules.specs.declared.action.Repeat.{Repeat}
use Rattle.pearl_rules.specs.declared.action.Repeat.TheVariants.{Once}
use Rattle.pearl_rules.specs.declared.entry.Entry.{Entry}
use Rattle.pearl_rules.specs.declared.entry.Entry.TheVariants as entry
use Rattle.pearl_rules.specs.declared.event.Event.{Event}
use Rattle.pearl_rules.specs.declared.event.Event.TheVariants as event
use Rattle.pearl_rules.specs.declared.row.Kept.{Kept}
use Rattle.pearl_rules.specs.declared.row.Kept.TheVariants as kept
use Rattle.pearl_rules.specs.declared.row.Mode.{Mode}
use Rattle.pearl_rules.specs.declared.row.Mode.TheVariants.{Dormant, Active}
use Rattle.pearl_rules.specs.declared.row.Plan.{Plan}
use Rattle.pearl_rules.specs.declared.row.Activation.{Activation}
use Rattle.pearl_rules.specs.declared.row.TaskRow.{TaskRow}
use Rattle.pearl_rules.specs.declared.setup.Setup.{Setup}
use Rattle.pearl_rules.specs.Core.{Core, Channel, Switch, Bytes, Values, Outward, Report, Happened, note, row_of, with_row, mode_of_row, mode_of, is_active}
use Rattle.pearl_rules.specs.Counts.{count_at, all_below_most}
use Rattle.pearl_rules.specs.Plans.{changed_row, priorities, oldest, kept_in, kept_of, with_continuation, activation_in, activation_of, started_by, started, marked_mode, with_mark, planned, serves_if, continuation_of, continued, serve_continuation, serve_activation_by, plan_continuation, plan_activation, millisecond}
use Rattle.pearl_rules.specs.Devices.{channel_of, with_channel, is_enabled, interrupted, items_of, bytes_at, terminal_room, with_bytes, without_bytes, values_at, input_room, joined, with_value_by, with_value, without_value_by, without_value, arrived}
use Rattle.pearl_rules.specs.Scan.{Scanned, Short, Bad, Got, scan}
use Rattle.pearl_rules.specs.Effect.{effect_of, effect, ended_with, prevented, is_at_once, activated, continues, resuming, priority_or_declared, stopped_by, releasing, trying, getting, taking}
use Rattle.pearl_rules.specs.Laws.{happened_at, kept_behind, events_behind}
use Rattle.pearl_rules.specs.Slots.{IsTimedRow, HasTimes}
use Rattle.pearl_rules.proofs.Offered.{here, there, each_at, set-same, set-other, effect-told, arrived-told}
use Rattle.pearl_rules.proofs.Offered.{changed-other, changed-here, changed-none, ended-kept, ended-other, ended-rest}
use Rattle.pearl_rules_laws.specs.Plans.{kept_after, start_events, all_start_events, starts_now, starts_after, served_row, reached_row}
use Rattle.pearl_rules_laws.specs.Kept.{DormantKeepNone, kept_list, IsEndOf, OldestServed, Grows, KeepsAll, KeepsOrServes}
use Rattle.pearl_rules_laws.proofs.Steps.{tells, began, started_is, plan_activation_is}
use Rattle.pearl_rules_laws.proofs.Planning.{masked_tells}
use Rattle.pearl_rules_laws.proofs.Rows.{millisecond_is, occurred_is}
use Rattle.pearl_rules_laws.proofs.Reaching.{event_within}

-- up to the last moment no dormant task keeps a start
pub none_kept : (setup : Setup) (core : Core) → HasTimes setup core → DormantKeepNone core
none_kept setup core has t dormant = by_row (row_of core t) refl
  where
    by_row : (row : Option TaskRow) → row_of core t ≡ row → kept_in row ≡ kept.Nothing
    by_row None at = refl
    by_row (Some row) at = (each_at IsTimedRow core.tasks has.rows t row at).keeps_none (sym (ap mode_of_row at) ∙ dormant)

-- NOTHING CHANGES

-- each task keeps what it kept
abbrev pub Same : Core → Core → Type 0
Same core after = (u : ℕ) → kept_of after u ≡ kept_of core u

pub same_tasks : (core after : Core) → after.tasks ≡ core.tasks → Same core after
same_tasks core after same u = ap (λ rows. kept_in (slice_get rows u)) same

same_if : (core : Core) (test : Bool) (after other : Core) → Same core after → Same core other → Same core (if test then after else other)
same_if core true after other same also = same
same_if core false after other same also = also

-- another row that keeps the same
same_row_kept : (core : Core) (t : ℕ) (change : TaskRow → TaskRow) → ((r : TaskRow) → (change r).kept ≡ r.kept) →
    Same core (changed_row core t change)
same_row_kept core t change keeps u = by_test (nat_eq u t) refl
  where
    by_row : (row : Option TaskRow) → row_of core t ≡ row → kept_of (changed_row core t change) t ≡ kept_of core t
    by_row None at = ap (λ c. kept_of c t) (changed-none core t change at)
    by_row (Some row) at = ap kept_in (changed-here core t change row at) ∙ keeps row ∙ sym (ap kept_in at)

    by_test : (b : Bool) → nat_eq u t ≡ b → kept_of (changed_row core t change) u ≡ kept_of core u
    by_test true same = subst (λ v. kept_of (changed_row core t change) v ≡ kept_of core v) (sym (eqb-true u t same)) (by_row (row_of core t) refl)
    by_test false differ = ap kept_in (changed-other core t u change (eqb-false u t differ))

pub mark_same : (core : Core) (t : ℕ) (suspended : Bool) → Same core (with_mark core t suspended)
mark_same core t suspended = same_row_kept core t (λ r. record r { mode = marked_mode suspended (mode_of core t) }) (λ r. refl)

continuation_same : (core : Core) (t : ℕ) (plan : Option Plan) → Same core (with_continuation core t plan)
continuation_same core t plan = same_row_kept core t (λ r. record r { continuation = plan }) (λ r. refl)

continued_same : (core : Core) (t : ℕ) → Same core (continued core t)
continued_same core t u = continuation_same (with_mark core t false) t None u ∙ mark_same core t false u

serve_same : (core : Core) (t : ℕ) → Same core (serve_continuation core t)
serve_same core t = same_if core (serves_if core (continuation_of core t)) (continued core t) core (continued_same core t) (λ u. refl)

plan_same : (core : Core) (t : ℕ) (plan : Plan) → Same core (plan_continuation core t plan)
plan_same core t plan u = serve_same (with_continuation core t (Some plan)) t u ∙ continuation_same core t (Some plan) u

pub continues_same : (core : Core) (t : ℕ) (start : Start) → Same core (continues core t start)
continues_same core t start =
    same_if core (is_at_once start Once) (with_mark core t false)
    (if is_active core t then plan_continuation core t (planned core start Once) else core) (mark_same core t false)
    (same_if core (is_active core t) (plan_continuation core t (planned core start Once)) core (plan_same core t (planned core start Once)) (λ u. refl))

pub resuming_same : (core : Core) (own : ℕ) (start : Start) → Same core (resuming core own start)
resuming_same core own start u =
    plan_same (with_mark core own true) own (planned core start Once) u ∙ mark_same core own true u

-- what is told then, whatever it is
stays_all : (core after : Core) → Same core after → (more : List (ℕ × Report)) × (after.told ≡ core.told ++ more) → KeepsAll core after
stays_all core after same told = record { more = told.0; told = told.1; each = λ t. inl (ap priorities (same t)) }

-- STARTS

-- what a task keeps that is to be started or not, where what is told of it was told
grows_row : (t : ℕ) (starts : Option ℕ) (mode : Mode) (held : Kept) (more : List (ℕ × Report)) (moment : ℕ) →
    (mode ≡ Dormant → held ≡ kept.Nothing) →
    ((e : Event) → start_events t starts mode held ≡ e ∷ [] → Contains more (moment, Happened e)) →
    Grows t (priorities held) (priorities (kept_after starts mode held)) more moment
grows_row t None mode held more moment none told = inl refl
grows_row t (Some p) Dormant held more moment none told = inl (sym (ap priorities (none refl)))
grows_row t (Some p) (Active own suspended) kept.Nothing more moment none told =
    inr (record { priority = p; last = refl; room = omega arith; told = told (event.Kept t 1) refl })
grows_row t (Some p) (Active own suspended) (kept.One a) more moment none told =
    inr (record { priority = p; last = refl; room = omega arith; told = told (event.Kept t 2) refl })
grows_row t (Some p) (Active own suspended) (kept.Two a b) more moment none told =
    inr (record { priority = p; last = refl; room = omega arith; told = told (event.Kept t 3) refl })
grows_row t (Some p) (Active own suspended) (kept.Three a b c) more moment none told = inl refl

-- an event among others
told_within : (moment : ℕ) (front : List Event) (e : Event) (behind : List Event) →
    Contains (happened_at moment (front ++ e ∷ behind)) (moment, Happened e)
told_within moment [] e behind = here (moment, Happened e) (happened_at moment behind)
told_within moment (first ∷ front) e behind =
    there (moment, Happened first) (moment, Happened e) (happened_at moment (front ++ e ∷ behind)) (told_within moment front e behind)

-- one task is to be started or not, and its row changes so
grows_one : (core : Core) (t : ℕ) (row changed : TaskRow) (starts : Option ℕ) → row_of core t ≡ Some row →
    changed.kept ≡ kept_after starts row.mode row.kept → DormantKeepNone core →
    KeepsAll core (tells (with_row core t changed) (start_events t starts row.mode row.kept))
grows_one core t row changed starts at keeps none = record {
  more = happened_at core.moment (start_events t starts row.mode row.kept);
  told = refl;
  each = λ u. by_test u (nat_eq u t) refl;
}
  where
    own : Grows t (kept_list core t) (kept_list (with_row core t changed) t)
        (happened_at core.moment (start_events t starts row.mode row.kept)) core.moment
    own =
        subst (λ k. Grows t (kept_list core t) (priorities k) (happened_at core.moment (start_events t starts row.mode row.kept)) core.moment)
        (sym (ap kept_in (set-same core.tasks t row changed at) ∙ keeps))
        (subst (λ k. Grows t (priorities k) (priorities (kept_after starts row.mode row.kept))
        (happened_at core.moment (start_events t starts row.mode row.kept)) core.moment) (sym (ap kept_in at))
        (grows_row t starts row.mode row.kept (happened_at core.moment (start_events t starts row.mode row.kept)) core.moment
        (λ dormant. sym (ap kept_in at) ∙ none t (ap mode_of_row at ∙ dormant))
        (λ e is. subst (λ es. Contains (happened_at core.moment es) (core.moment, Happened e)) (sym is) (here (core.moment, Happened e) []))))

    by_test : (u : ℕ) (b : Bool) → nat_eq u t ≡ b → Grows u (kept_list core u) (kept_list (with_row core t changed) u)
        (happened_at core.moment (start_events t starts row.mode row.kept)) core.moment
    by_test u true same =
        subst (λ v. Grows v (kept_list core v) (kept_list (with_row core t changed) v)
        (happened_at core.moment (start_events t starts row.mode row.kept)) core.moment) (sym (eqb-true u t same)) own
    by_test u false differ = inl (ap (λ r. priorities (kept_in r)) (set-other core.tasks t u changed (eqb-false u t differ)))

-- all tasks are to be started or not, and their rows change so
grows_all : (core after : Core) (change : TaskRow → TaskRow) (starts : TaskRow → Option ℕ) →
    ((row : TaskRow) → (change row).kept ≡ kept_after (starts row) row.mode row.kept) → after.tasks ≡ map change core.tasks →
    after.told ≡ core.told ++ happened_at after.moment (all_start_events starts 0 core.tasks) → DormantKeepNone core → KeepsAll core after
grows_all core after change starts keeps rows told none = record {
  more = happened_at after.moment (all_start_events starts 0 core.tasks);
  told = told;
  each = λ t. by_row t (row_of core t) refl;
}
  where
    all : List (ℕ × Report)
    all = happened_at after.moment (all_start_events starts 0 core.tasks)

    now : (t : ℕ) → kept_of after t ≡ kept_in (option_map change (row_of core t))
    now t = ap (λ rs. kept_in (slice_get rs t)) rows ∙ ap kept_in (slice_get-map change core.tasks t)

    by_row : (t : ℕ) (row : Option TaskRow) → row_of core t ≡ row → Grows t (kept_list core t) (kept_list after t) all after.moment
    by_row t None at = inl (ap priorities (now t ∙ ap (λ r. kept_in (option_map change r)) at ∙ sym (ap kept_in at)))
    by_row t (Some row) at =
        subst (λ k. Grows t (kept_list core t) (priorities k) all after.moment)
        (sym (now t ∙ ap (λ r. kept_in (option_map change r)) at ∙ keeps row))
        (subst (λ k. Grows t (priorities k) (priorities (kept_after (starts row) row.mode row.kept)) all after.moment) (sym (ap kept_in at))
        (grows_row t (starts row) row.mode row.kept all after.moment (λ dormant. sym (ap kept_in at) ∙ none t (ap mode_of_row at ∙ dormant))
        (λ e is. let found = event_within starts 0 t core.tasks row at e
        (ap (λ u. start_events u (starts row) row.mode row.kept) (zero-add t) ∙ is) in
        subst (λ es. Contains (happened_at after.moment es) (after.moment, Happened e)) (sym found.is)
        (told_within after.moment found.front e found.behind))))

-- MILLISECONDS AND WHAT COMES IN

pub millisecond_grows : (core : Core) → DormantKeepNone core → KeepsAll core (millisecond core)
millisecond_grows core none =
    let later : Core = record core { moment = core.moment + 1 } in
    subst (KeepsAll core) (sym (millisecond_is core))
    (grows_all core _ (served_row later) (λ row. starts_now later row.activation) (λ row. refl) refl refl none)

interrupted_grows : (core : Core) (device : ℕ) → DormantKeepNone core → KeepsAll core (interrupted core device)
interrupted_grows core device none = by_test (is_enabled core device) refl
  where
    by_test : (b : Bool) → is_enabled core device ≡ b → KeepsAll core (interrupted core device)
    by_test true on =
        subst (KeepsAll core) (sym (occurred_is core device on))
        (grows_all core _ (reached_row core device) (λ row. starts_after core device row.activation) (λ row. refl) refl refl none)
    by_test false off =
        subst (KeepsAll core) (sym (masked_tells core device off))
        (stays_all core (note core (event.Masked device)) (λ u. refl) ((core.moment, Happened (event.Masked device)) ∷ [], refl))

-- bytes and values are no starts
pub bytes_tasks : (core : Core) (device : ℕ) (text : List ℕ) → (with_bytes core device text).tasks ≡ core.tasks
bytes_tasks core device text = by_test (nat_le (length (bytes_at core device ++ text)) terminal_room)
  where
    by_test : (b : Bool) → (if b then with_channel core device (Bytes (bytes_at core device ++ text)) else note core (event.Lost device)).tasks ≡ core.tasks
    by_test true = refl
    by_test false = refl

pub value_tasks : (core : Core) (device : ℕ) (x : Cell) → (with_value core device x).tasks ≡ core.tasks
value_tasks core device x = by_channel (channel_of core device)
  where
    by_value : (kind : Kind) (pending : List Cell) (value : Result Cell Trap) → (joined core device kind pending value).tasks ≡ core.tasks
    by_value kind pending (Err trap) = refl
    by_value kind pending (Ok y) = refl

    by_channel : (channel : Option Channel) → (with_value_by channel core device x).tasks ≡ core.tasks
    by_channel None = refl
    by_channel (Some (Switch enabled)) = refl
    by_channel (Some (Bytes pending)) = refl
    by_channel (Some Outward) = refl
    by_channel (Some (Values kind pending)) = by_room (nat_lt (length pending) input_room)
      where
        by_room : (b : Bool) → (if b then joined core device kind pending (converted x kind) else note core (event.Lost device)).tasks ≡ core.tasks
        by_room true = by_value kind pending (converted x kind)
        by_room false = refl

pub taken_tasks : (core : Core) (device : ℕ) → (without_value core device).tasks ≡ core.tasks
taken_tasks core device = by_channel (channel_of core device)
  where
    by_channel : (channel : Option Channel) → (without_value_by channel core device).tasks ≡ core.tasks
    by_channel None = refl
    by_channel (Some (Switch enabled)) = refl
    by_channel (Some (Bytes pending)) = refl
    by_channel (Some Outward) = refl
    by_channel (Some (Values kind pending)) = refl

pub arrived_grows : (core : Core) (come : Entry) → DormantKeepNone core → KeepsAll core (arrived core come)
arrived_grows core (entry.Irpt device) none = interrupted_grows core device none
arrived_grows core (entry.Chars device text) none =
    stays_all core _ (same_tasks core (with_bytes core device text.items) (bytes_tasks core device text.items)) (arrived-told core (entry.Chars device text))
arrived_grows core (entry.Line device text) none =
    stays_all core _ (same_tasks core (with_bytes core device (text.items ++ 10 ∷ [])) (bytes_tasks core device (text.items ++ 10 ∷ [])))
    (arrived-told core (entry.Line device text))
arrived_grows core (entry.Value device x) none =
    stays_all core _ (same_tasks core (with_value core device x) (value_tasks core device x)) (arrived-told core (entry.Value device x))
arrived_grows core (entry.Clock time) none = stays_all core _ (λ u. refl) (arrived-told core (entry.Clock time))
arrived_grows core (entry.Run picks) none = stays_all core core (λ u. refl) (arrived-told core (entry.Run picks))
arrived_grows core (entry.Tick milliseconds) none = stays_all core core (λ u. refl) (arrived-told core (entry.Tick milliseconds))
arrived_grows core (entry.Pass times picks) none = stays_all core core (λ u. refl) (arrived-told core (entry.Pass times picks))
arrived_grows core (entry.Turn task) none = stays_all core core (λ u. refl) (arrived-told core (entry.Turn task))
arrived_grows core entry.State none = stays_all core core (λ u. refl) (arrived-told core entry.State)

-- ENDS

-- each task keeps, or serves the oldest
record KeepsSome (core after : Core) : Type 0 where
  more : List (ℕ × Report)
  told : after.told ≡ core.told ++ more
  each : (t : ℕ) → Grows t (kept_list core t) (kept_list after t) more after.moment
      ⊎ OldestServed t (kept_list core t) (kept_list after t) more after.moment

keeps_some : (core after : Core) → KeepsAll core after → KeepsSome core after
keeps_some core after all = record { more = all.more; told = all.told; each = λ t. inl (all.each t) }

-- what the task keeps that ends
served_kept : (t : ℕ) (held : Kept) (moment : ℕ) (e : Event) → IsEndOf t e →
    Grows t (priorities held) (priorities (kept_behind (oldest held))) (happened_at moment (e ∷ events_behind t (oldest held))) moment
    ⊎ OldestServed t (priorities held) (priorities (kept_behind (oldest held))) (happened_at moment (e ∷ events_behind t (oldest held))) moment
served_kept t held moment e is = by_kept held
  where
    -- both were told
    served : (a : ℕ) (old new : List ℕ) → old ≡ a ∷ new → OldestServed t old new (happened_at moment (e ∷ event.Start t a ∷ [])) moment
    served a old new oldest = record {
      first = a;
      oldest = oldest;
      end = e;
      is_end = is;
      ended = told_within moment [] e (event.Start t a ∷ []);
      told = told_within moment (e ∷ []) (event.Start t a) [];
    }

    by_kept : (held : Kept) →
        Grows t (priorities held) (priorities (kept_behind (oldest held))) (happened_at moment (e ∷ events_behind t (oldest held))) moment
        ⊎ OldestServed t (priorities held) (priorities (kept_behind (oldest held))) (happened_at moment (e ∷ events_behind t (oldest held))) moment
    by_kept kept.Nothing = inl (inl refl)
    by_kept (kept.One a) = inr (served a (a ∷ []) [] refl)
    by_kept (kept.Two a b) = inr (served a (a ∷ b ∷ []) (b ∷ []) refl)
    by_kept (kept.Three a b c) = inr (served a (a ∷ b ∷ c ∷ []) (b ∷ c ∷ []) refl)

ended_keeps : (core : Core) (t : ℕ) (e : Event) → IsEndOf t e → KeepsSome core (ended_with core t e)
ended_keeps core t e is = record {
  more = all;
  told = ap (λ c. c.told) (ended-rest core t e);
  each = λ u. subst (λ m. Goes u m) (sym (ap (λ c. c.moment) (ended-rest core t e))) (by_test u (nat_eq u t) refl);
}
  where
    all : List (ℕ × Report)
    all = happened_at core.moment (e ∷ events_behind t (oldest (kept_of core t)))

    Goes : ℕ → ℕ → Type 0
    Goes u moment = Grows u (kept_list core u) (kept_list (ended_with core t e) u) all moment
        ⊎ OldestServed u (kept_list core u) (kept_list (ended_with core t e) u) all moment

    own : Goes t core.moment
    own =
        subst (λ k. Grows t (kept_list core t) (priorities k) all core.moment ⊎ OldestServed t (kept_list core t) (priorities k) all core.moment)
        (sym (ended-kept core t e)) (served_kept t (kept_of core t) core.moment e is)

    by_test : (u : ℕ) (b : Bool) → nat_eq u t ≡ b → Goes u core.moment
    by_test u true same = subst (λ v. Goes v core.moment) (sym (eqb-true u t same)) own
    by_test u false differ = inl (inl (ap (λ r. priorities (kept_in r)) (ended-other core t u e (eqb-false u t differ))))

-- ACTIONS

-- a start, now or by a plan
activated_grows : (core : Core) (t : ℕ) (start : Start) (repeat : Repeat) (priority : ℕ) → DormantKeepNone core →
    (more : List (ℕ × Report)) × ((activated core t start repeat priority).told ≡ core.told ++ more) →
    KeepsAll core (activated core t start repeat priority)
activated_grows core t start repeat priority none told = by_row (row_of core t) refl
  where
    plan : Activation
    plan = record { plan = planned core start repeat; priority = priority }

    -- nothing is started where there is no task
    start_none : row_of core t ≡ None → Same core (started core t priority)
    start_none at u =
        ap (λ r. kept_of (started_by (mode_of_row r) core t priority) u) at
        ∙ ap (λ c. kept_of c u) (changed-none core t (λ row. record row { mode = Active priority false; kept = kept.Nothing }) at)

    plan_none : row_of core t ≡ None → Same core (plan_activation core t plan)
    plan_none at u =
        ap (λ c. kept_of (serve_activation_by (activation_of c t) c t) u) (changed-none core t (λ row. record row { activation = Some plan }) at)
        ∙ ap (λ r. kept_of (serve_activation_by (activation_in r) core t) u) at

    by_test : (row : TaskRow) → row_of core t ≡ Some row → (b : Bool) →
        KeepsAll core (if b then started core t priority else plan_activation core t plan)
    by_test row at true =
        subst (KeepsAll core) (sym (started_is core t row at priority)) (grows_one core t row (began (Some priority) row) (Some priority) at refl none)
    by_test row at false =
        subst (KeepsAll core) (sym (plan_activation_is core t row at plan))
        (grows_one core t row (began (starts_now core (Some plan)) (record row { activation = Some plan })) (starts_now core (Some plan)) at refl none)

    by_row : (row : Option TaskRow) → row_of core t ≡ row → KeepsAll core (activated core t start repeat priority)
    by_row None at =
        stays_all core (activated core t start repeat priority)
        (same_if core (is_at_once start repeat) (started core t priority) (plan_activation core t plan) (start_none at) (plan_none at)) told
    by_row (Some row) at = by_test row at (is_at_once start repeat)

-- a PREVENT empties what its task keeps
pub prevented_none : (core : Core) (t : ℕ) → kept_of (prevented core t) t ≡ kept.Nothing
prevented_none core t = by_row (row_of core t) refl
  where
    change : TaskRow → TaskRow
    change row = record row { kept = kept.Nothing; continuation = None; activation = None }

    by_row : (row : Option TaskRow) → row_of core t ≡ row → kept_of (prevented core t) t ≡ kept.Nothing
    by_row None at = ap (λ c. kept_of c t) (changed-none core t change at) ∙ ap kept_in at
    by_row (Some row) at = ap kept_in (changed-here core t change row at)

pub prevent_empties : (core : Core) (own t : ℕ) → kept_of (effect core own (action.Prevent t)).core t ≡ kept.Nothing
unfolding effect
prevent_empties core own t = prevented_none (record core { last = Some own }) t

-- and of no other
pub effect_keeps : (core : Core) (own : ℕ) (asked : Action) → DormantKeepNone core → KeepsOrServes core asked (effect core own asked).core
unfolding effect
effect_keeps core own asked none = by_action asked (effect-told core own asked)
  where
    acted : Core
    acted = record core { last = Some own }

    Told : Core → Type 0
    Told after = (more : List (ℕ × Report)) × (after.told ≡ core.told ++ more)

    -- each task keeps or serves
    some : (asked : Action) (after : Core) → KeepsSome acted after → KeepsOrServes core asked after
    some asked after keeps = record { more = keeps.more; told = keeps.told; each = λ t other. keeps.each t }

    all : (asked : Action) (after : Core) → KeepsAll acted after → KeepsOrServes core asked after
    all asked after keeps = record { more = keeps.more; told = keeps.told; each = λ t other. inl (keeps.each t) }

    same : (asked : Action) (after : Core) → Same acted after → Told after → KeepsOrServes core asked after
    same asked after stays told = record { more = told.0; told = told.1; each = λ t other. inl (inl (ap priorities (stays t))) }

    released : (list : List ℕ) (can_raise : Bool) (asked : Action) → Told (releasing acted own list can_raise).core →
        KeepsOrServes core asked (releasing acted own list can_raise).core
    released list true asked told = same asked _ (λ u. refl) told
    released list false asked told = some asked _ (ended_keeps acted own (event.Trap own SemaLimit) refl)

    tried : (s : ℕ) (is_free : Bool) (asked : Action) → Told (trying acted s is_free).core → KeepsOrServes core asked (trying acted s is_free).core
    tried s true asked told = same asked _ (λ u. refl) told
    tried s false asked told = same asked _ (λ u. refl) told

    got : (device : ℕ) (scanned : Scanned) (asked : Action) → Told (getting acted own device scanned).core →
        KeepsOrServes core asked (getting acted own device scanned).core
    got device Short asked told = some asked _ (ended_keeps acted own (event.End own) refl)
    got device (Bad used) asked told =
        let keeps = ended_keeps (without_bytes acted device used) own (event.Trap own Format) refl in
        record { more = keeps.more; told = keeps.told; each = λ t other. keeps.each t }
    got device (Got used values) asked told = same asked _ (λ u. refl) told

    took : (device : ℕ) (values : List Cell) (asked : Action) → Told (taking acted own device values).core →
        KeepsOrServes core asked (taking acted own device values).core
    took device [] asked told = some asked _ (ended_keeps acted own (event.End own) refl)
    took device (x ∷ later) asked told = same asked _ (same_tasks acted (without_value acted device) (taken_tasks acted device)) told

    stopped : (t : ℕ) (mode : Mode) (asked : Action) → Told (stopped_by mode acted t) → KeepsOrServes core asked (stopped_by mode acted t)
    stopped t Dormant asked told = same asked _ (λ u. refl) told
    stopped t (Active priority suspended) asked told = some asked _ (ended_keeps acted t (event.Stop t) refl)

    by_action : (asked : Action) → Told (effect_of acted own asked).core → KeepsOrServes core asked (effect_of acted own asked).core
    by_action (action.Read slot) told = same (action.Read slot) _ (λ u. refl) told
    by_action (action.Write slot value) told = same (action.Write slot value) _ (λ u. refl) told
    by_action action.Turn told = same action.Turn _ (λ u. refl) told
    by_action action.Enter told = same action.Enter _ (λ u. refl) told
    by_action action.Now told = same action.Now _ (λ u. refl) told
    by_action (action.Request list) told = same (action.Request list) _ (λ u. refl) told
    by_action (action.Release list) told = released list.items (all_below_most core.counts list.items) (action.Release list) told
    by_action (action.Try s) told = tried s (nat_lt 0 (count_at core.counts s)) (action.Try s) told
    by_action (action.Activate t start repeat priority) told =
        all (action.Activate t start repeat priority) _ (activated_grows acted t start repeat (priority_or_declared acted t priority) none told)
    by_action (action.Continue t start) told = same (action.Continue t start) _ (continues_same acted t start) told
    by_action (action.Resume start) told = same (action.Resume start) _ (resuming_same acted own start) told
    by_action (action.Suspend t) told = same (action.Suspend t) _ (mark_same acted t true) told
    by_action (action.Terminate t) told = stopped t (mode_of core t) (action.Terminate t) told
    by_action (action.Prevent t) told = record {
      more = told.0;
      told = told.1;
      each = λ u other. inl (inl (ap (λ r. priorities (kept_in r))
          (changed-other acted t u (λ row. record row { kept = kept.Nothing; continuation = None; activation = None })
          (λ is. other (ap action.Prevent (sym is))))));
    }
    by_action (action.Enable device) told = same (action.Enable device) _ (λ u. refl) told
    by_action (action.Disable device) told = same (action.Disable device) _ (λ u. refl) told
    by_action (action.Trigger device) told = all (action.Trigger device) _ (interrupted_grows acted device none)
    by_action (action.Put device text) told = same (action.Put device text) _ (λ u. refl) told
    by_action (action.Get device format kinds) told =
        got device (scan (items_of core format) kinds.items (bytes_at core device)) (action.Get device format kinds) told
    by_action (action.Take device) told = took device (values_at core device) (action.Take device) told
    by_action (action.Send device value) told = same (action.Send device value) _ (λ u. refl) told
    by_action action.End told = some action.End _ (ended_keeps acted own (event.End own) refl)
    by_action (action.Trap trap) told = some (action.Trap trap) _ (ended_keeps acted own (event.Trap own trap) refl)
