-- What a mark does with the starts of one task, and what a run does with them.
use Rattle.std.proofs.Common.{◌≡◌, ◌≢◌, inl, inr, ℕ, ◌+◌, List, [], ◌∷◌, ◌++◌, Bool, true, false, nat_eq, nat_le, nat_lt, if◌then◌else◌, Option, Some, None, option_map, Result, Ok, Err, map, length, slice_get, take, drop, refl, sym, ap, subst, ◌∙◌, eqb-true, append-nil, arith}
use Rattle.std.proofs.Math.Seq.{drop-append_seam}
use Rattle.std.proofs.lemmas.Bool.{eqb-false, ne_eqb, true≢false}
use Rattle.std.proofs.lemmas.Option.{slice_get-map}
use Rattle.pearl_value.specs.declared.cell.Cell.{Cell}
use Rattle.pearl_value.specs.declared.kind.Kind.{Kind}
use Rattle.pearl_value.specs.declared.trap.Trap.{Trap}
use Rattle.pearl_value.specs.declared.trap.Trap.TheVariants.{SemaLimit, Format}
use Rattle.pearl_value.specs.Conversions.{converted}
use Rattle.pearl_rules.specs.declared.action.Action.{Action}
use Rattle.pearl_rules.specs.declared.action.Action.TheVariants as action
use Rattle.pearl_rules.specs.declared.action.Answer.{Answer}
use Rattle.pearl_rules.specs.declared.action.Start.{Start}
use Rattle.pearl_rules.specs.declared.action.Repeat.{Repeat}
use Rattle.pearl_rules.specs.declared.action.Repeat.TheVariants.{Once}
use Rattle.pearl_rules.specs.declared.entry.Entry.{Entry}
use Rattle.pearl_rules.specs.declared.entry.Entry.TheVariants as entry
use Rattle.pearl_rules.specs.declared.event.Event.{Event}
use Rattle.pearl_rules.specs.declared.event.Event.TheVariants as event
use Rattle.pearl_rules.specs.declared.row.Kept.{Kept}
use Rattle.pearl_rules.specs.declared.row.Kept.TheVariants as kept
use Rattle.pearl_rules.specs.declared.row.Mode.{Mode}
use Rattle.pearl_rules.specs.declared.row.Mode.TheVariants.{Dormant, Active}
use Rattle.pearl_rules.specs.declared.row.Plan.{Plan}
use Rattle.pearl_rules.specs.declared.row.Activation.{Activation}
use Rattle.pearl_rules.specs.declared.row.TaskRow.{TaskRow}
use Rattle.pearl_rules.specs.Core.{Core, Channel, Switch, Bytes, Values, Outward, Report, Happened, note, row_of, with_row, mode_of_row, mode_of, is_active}
use Rattle.pearl_rules.specs.Counts.{count_at, all_below_most}
use Rattle.pearl_rules.specs.Plans.{on_row, changed_row, priorities, oldest, kept_in, kept_of, with_continuation, activation_in, activation_of, started_by, started, marked_mode, with_mark, planned, serves_if, continuation_of, continued, serve_activation_by, plan_continuation, plan_activation, millisecond}
use Rattle.pearl_rules.specs.Devices.{channel_of, with_channel, is_enabled, interrupted, items_of, bytes_at, terminal_room, with_bytes, without_bytes, values_at, input_room, joined, with_value_by, with_value, without_value_by, without_value}
use Rattle.pearl_rules.specs.Scan.{Scanned, Short, Bad, Got, scan}
use Rattle.pearl_rules.specs.Effect.{effect_of, effect, ended_with, prevented, is_at_once, activated, continues, resuming, priority_or_declared, stopped_by, releasing, trying, getting, taking}
use Rattle.pearl_rules.specs.Pick.{possible_of, turned, states, showing}
use Rattle.pearl_rules.specs.Laws.{happened_at, kept_behind, events_behind}
use Rattle.pearl_rules.specs.Runs.{Mark, Acts, Turns, Tells, Passes, Arrives, Coming, mapped, kept_at, Supplier, Source, source_offers, source_next, source_acts, source_mark, source_step_by, source_step}
use Rattle.pearl_rules.proofs.Offered.{set-same, set-other, changed-other, changed-none, ended-kept, ended-other, ended-rest, turned-is}
use Rattle.pearl_rules_laws.specs.Plans.{kept_after, start_events, all_start_events, starts_now, starts_after, served_row, reached_row}
use Rattle.pearl_rules_laws.specs.Kept.{DormantKeepNone, kept_list}
use Rattle.pearl_rules_laws.specs.Queue.{Dropped, is_end, is_of, of_task, told_of, answers_from, answers, served_from, asked_of, asked_at, asked_by, asked_in, asked_if, asked, IsAnswered, AnswersStart, Served, start_of, kept_by, kept_next, prevents, prevents_in, prevents_if, gone_by, gone_next, served_in, has_end, ServesOldest}
use Rattle.pearl_rules_laws.proofs.Steps.{tells, began, started_is, plan_activation_is}
use Rattle.pearl_rules_laws.proofs.Planning.{masked_tells}
use Rattle.pearl_rules_laws.proofs.Rows.{millisecond_is, occurred_is}
use Rattle.pearl_rules_laws.proofs.Keeping.{same_tasks, mark_same, continues_same, resuming_same, taken_tasks, prevented_none}
use Rattle.pearl_rules_laws.proofs.Telling.{own_of, of_happened, of_states, own_first, other_first, start_own, start_other, all_told}

-- ONE MARK

-- what was told in a mark suits the start that it asks for, and what the task kept and keeps then
abbrev Suits : (t : ℕ) → Option ℕ → (prevented : Bool) → Mode → (held now : Kept) → List Event → Type 0
Suits t start prevented mode held now told =
    IsAnswered t start mode (priorities held) (priorities now) (answers told)
    × (priorities held ++ kept_by start (answers told) ≡ map start_of (gone_by prevented (priorities held) told) ++ priorities now)
    × (has_end told ≡ true → served_in told ≡ take 1 (priorities held))
    × (prevented ≡ true → told ≡ [])

-- so it is in a mark that leads to this core, where this was told, and the task was in this mode and kept these
record Does (t : ℕ) (start : Option ℕ) (prevented : Bool) (told : List (ℕ × Report)) (mode : Mode) (held : Kept) (after : Core) : Type 0 where
  more : List (ℕ × Report)
  tells : after.told ≡ told ++ more
  suits : Suits t start prevented mode held (kept_of after t) (of_task t more)

-- nothing happens
nothing_suits : (t : ℕ) (mode : Mode) (held : Kept) → Suits t None false mode held held []
nothing_suits t mode held = (refl, append-nil (priorities held), λ ends. absurd (true≢false (sym ends)), λ is. refl)

-- a start is asked for, or none
start_suits : (t : ℕ) (start : Option ℕ) (mode : Mode) (held : Kept) → (mode ≡ Dormant → held ≡ kept.Nothing) →
    Suits t start false mode held (kept_after start mode held) (start_events t start mode held)
start_suits t None mode held none = nothing_suits t mode held
start_suits t (Some p) Dormant held none =
    (refl, append-nil (priorities held) ∙ ap priorities (none refl), λ ends. absurd (true≢false (sym ends)), λ is. absurd (true≢false (sym is)))
start_suits t (Some p) (Active own suspended) kept.Nothing none = (
  inl (record { room = omega arith; last = refl; tells = refl }),
  refl,
  λ ends. absurd (true≢false (sym ends)),
  λ is. absurd (true≢false (sym is)),
)
start_suits t (Some p) (Active own suspended) (kept.One a) none = (
  inl (record { room = omega arith; last = refl; tells = refl }),
  refl,
  λ ends. absurd (true≢false (sym ends)),
  λ is. absurd (true≢false (sym is)),
)
start_suits t (Some p) (Active own suspended) (kept.Two a b) none = (
  inl (record { room = omega arith; last = refl; tells = refl }),
  refl,
  λ ends. absurd (true≢false (sym ends)),
  λ is. absurd (true≢false (sym is)),
)
start_suits t (Some p) (Active own suspended) (kept.Three a b c) none = (
  inr (record { full = refl; stays = refl; tells = refl }),
  refl,
  λ ends. absurd (true≢false (sym ends)),
  λ is. absurd (true≢false (sym is)),
)

-- the task ends
end_suits : (t : ℕ) (mode : Mode) (held : Kept) (e : Event) → is_end e ≡ true →
    Suits t None false mode held (kept_behind (oldest held)) (e ∷ events_behind t (oldest held))
end_suits t mode held e is = (
  unanswered,
  ap (λ told. priorities held ++ kept_by None told) unanswered ∙ by_kept held
      ∙ ap (λ starts. map start_of (map Served starts) ++ priorities (kept_behind (oldest held))) (sym serves),
  λ ends. serves ∙ first held,
  λ never. absurd (true≢false (sym never)),
)
  where
    behind : List Event
    behind = events_behind t (oldest held)

    no_answer : (held : Kept) → answers_from true (events_behind t (oldest held)) ≡ []
    no_answer kept.Nothing = refl
    no_answer (kept.One a) = refl
    no_answer (kept.Two a b) = refl
    no_answer (kept.Three a b c) = refl

    unanswered : answers (e ∷ behind) ≡ []
    unanswered = ap (λ b. if b then answers_from true behind else e ∷ answers_from false behind) is ∙ no_answer held

    serves : served_in (e ∷ behind) ≡ served_from true behind
    serves = ap (λ b. served_from b behind) is

    first : (held : Kept) → served_from true (events_behind t (oldest held)) ≡ take 1 (priorities held)
    first kept.Nothing = refl
    first (kept.One a) = refl
    first (kept.Two a b) = refl
    first (kept.Three a b c) = refl

    by_kept : (held : Kept) → priorities held ++ []
        ≡ map start_of (map Served (served_from true (events_behind t (oldest held)))) ++ priorities (kept_behind (oldest held))
    by_kept kept.Nothing = refl
    by_kept (kept.One a) = refl
    by_kept (kept.Two a b) = refl
    by_kept (kept.Three a b c) = refl

-- a PREVENT
prevent_suits : (t : ℕ) (mode : Mode) (held : Kept) → Suits t None true mode held kept.Nothing []
prevent_suits t mode held = (refl, by_kept held, λ ends. absurd (true≢false (sym ends)), λ is. refl)
  where
    by_kept : (held : Kept) → priorities held ++ [] ≡ map start_of (map Dropped (priorities held)) ++ []
    by_kept kept.Nothing = refl
    by_kept (kept.One a) = refl
    by_kept (kept.Two a b) = refl
    by_kept (kept.Three a b c) = refl

-- what is told and kept, as it is known
does : (t : ℕ) (start : Option ℕ) (prevented : Bool) (core after : Core) (mode : Mode) (held now : Kept) (own : List Event)
    (more : List (ℕ × Report)) → mode_of core t ≡ mode → kept_of core t ≡ held → kept_of after t ≡ now → of_task t more ≡ own →
    after.told ≡ core.told ++ more → Suits t start prevented mode held now own →
    Does t start prevented core.told (mode_of core t) (kept_of core t) after
does t start prevented core after mode held now own more mode_is held_is now_is own_is told suits = record {
  more = more;
  tells = told;
  suits = subst (λ m. Suits t start prevented m (kept_of core t) (kept_of after t) (of_task t more)) (sym mode_is)
      (subst (λ k. Suits t start prevented mode k (kept_of after t) (of_task t more)) (sym held_is)
      (subst (λ k. Suits t start prevented mode held k (of_task t more)) (sym now_is)
      (subst (λ es. Suits t start prevented mode held now es) (sym own_is) suits)));
}

-- nothing of the task is told, and it keeps the same
quiet : (t : ℕ) (core after : Core) (more : List (ℕ × Report)) → after.told ≡ core.told ++ more → of_task t more ≡ [] →
    kept_of after t ≡ kept_of core t → Does t None false core.told (mode_of core t) (kept_of core t) after
quiet t core after more told none same =
    does t None false core after (mode_of core t) (kept_of core t) (kept_of core t) [] more refl refl same none told
    (nothing_suits t (mode_of core t) (kept_of core t))

calm : (t : ℕ) (core after : Core) → after.told ≡ core.told → kept_of after t ≡ kept_of core t →
    Does t None false core.told (mode_of core t) (kept_of core t) after
calm t core after told same = quiet t core after [] (told ∙ sym (append-nil core.told)) refl same

-- STARTS

module _ (t : ℕ) (core : Core) (row : TaskRow) (at : row_of core t ≡ Some row) (none : DormantKeepNone core) where
  -- the task is to be started or not, and this is told of it
  starting : (start : Option ℕ) (after : Core) (events : List Event) → own_of t events ≡ start_events t start row.mode row.kept →
      after.told ≡ core.told ++ happened_at after.moment events → kept_of after t ≡ kept_after start row.mode row.kept →
      Does t start false core.told (mode_of core t) (kept_of core t) after
  starting start after events is told now =
      does t start false core after row.mode row.kept (kept_after start row.mode row.kept) (start_events t start row.mode row.kept)
      (happened_at after.moment events) (ap mode_of_row at) (ap kept_in at) now (of_happened t after.moment events ∙ is) told
      (start_suits t start row.mode row.kept (λ dormant. sym (ap kept_in at) ∙ none t (ap mode_of_row at ∙ dormant)))

  -- it alone
  starts_alone : (start : Option ℕ) (changed : TaskRow) → changed.kept ≡ kept_after start row.mode row.kept →
      Does t start false core.told (mode_of core t) (kept_of core t) (tells (with_row core t changed) (start_events t start row.mode row.kept))
  starts_alone start changed keeps =
      starting start (tells (with_row core t changed) (start_events t start row.mode row.kept)) (start_events t start row.mode row.kept)
      (start_own t start row.mode row.kept) refl (ap kept_in (set-same core.tasks t row changed at) ∙ keeps)

  -- among all tasks
  starts_among : (after : Core) (change : TaskRow → TaskRow) (starts : TaskRow → Option ℕ) →
      ((r : TaskRow) → (change r).kept ≡ kept_after (starts r) r.mode r.kept) → after.tasks ≡ map change core.tasks →
      after.told ≡ core.told ++ happened_at after.moment (all_start_events starts 0 core.tasks) →
      Does t (starts row) false core.told (mode_of core t) (kept_of core t) after
  starts_among after change starts keeps rows told =
      starting (starts row) after (all_start_events starts 0 core.tasks) (all_told starts t core.tasks row at) told
      (ap (λ rs. kept_in (slice_get rs t)) rows ∙ ap kept_in (slice_get-map change core.tasks t)
      ∙ ap (λ r. kept_in (option_map change r)) at ∙ keeps row)

-- another task is to be started or not
other_starts : (t u : ℕ) (core : Core) (row changed : TaskRow) (start : Option ℕ) → t ≢ u →
    Does t None false core.told (mode_of core t) (kept_of core t) (tells (with_row core u changed) (start_events u start row.mode row.kept))
other_starts t u core row changed start differ =
    quiet t core (tells (with_row core u changed) (start_events u start row.mode row.kept))
    (happened_at core.moment (start_events u start row.mode row.kept)) refl
    (of_happened t core.moment (start_events u start row.mode row.kept) ∙ start_other t u start row.mode row.kept differ)
    (ap kept_in (set-other core.tasks u t changed differ))

-- an action that starts a task
activated_does : (t : ℕ) (core : Core) (row : TaskRow) → row_of core t ≡ Some row → DormantKeepNone core →
    (u : ℕ) (start : Start) (repeat : Repeat) (named : Option ℕ) →
    Does t (if nat_eq t u then asked_of core t start repeat named else None) false core.told (mode_of core t) (kept_of core t)
    (activated core u start repeat (priority_or_declared core u named))
activated_does t core row at none u start repeat named = by_test (nat_eq t u) refl
  where
    To : Option ℕ → Core → Type 0
    To begins after = Does t begins false core.told (mode_of core t) (kept_of core t) after

    plan_of : ℕ → Activation
    plan_of priority = record { plan = planned core start repeat; priority = priority }

    own : (priority : ℕ) (b : Bool) → To (if b then Some priority else starts_now core (Some (plan_of priority)))
        (if b then started core t priority else plan_activation core t (plan_of priority))
    own priority true =
        subst (λ after. To (Some priority) after) (sym (started_is core t row at priority))
        (starts_alone t core row at none (Some priority) (began (Some priority) row) refl)
    own priority false =
        let plan = plan_of priority in
        subst (λ after. To (starts_now core (Some plan)) after) (sym (plan_activation_is core t row at plan))
        (starts_alone t core row at none (starts_now core (Some plan)) (began (starts_now core (Some plan)) (record row { activation = Some plan })) refl)

    other : t ≢ u → (priority : ℕ) (found : Option TaskRow) → row_of core u ≡ found → (b : Bool) →
        To None (if b then started core u priority else plan_activation core u (plan_of priority))
    other differ priority None missing true =
        subst (λ after. To None after)
        (sym (ap (λ r. started_by (mode_of_row r) core u priority) missing
        ∙ ap (λ c. note c (event.Start u priority)) (changed-none core u (λ r. record r { mode = Active priority false; kept = kept.Nothing }) missing)))
        (quiet t core (note core (event.Start u priority)) ((core.moment, Happened (event.Start u priority)) ∷ []) refl
        (other_first t (event.Start u priority) [] (ne_eqb t u differ)) refl)
    other differ priority None missing false =
        let plan = plan_of priority in
        subst (λ after. To None after)
        (sym (ap (λ c. serve_activation_by (activation_of c u) c u) (changed-none core u (λ r. record r { activation = Some plan }) missing)
        ∙ ap (λ r. serve_activation_by (activation_in r) core u) missing))
        (calm t core core refl refl)
    other differ priority (Some found) there true =
        subst (λ after. To None after) (sym (started_is core u found there priority))
        (other_starts t u core found (began (Some priority) found) (Some priority) differ)
    other differ priority (Some found) there false =
        let plan = plan_of priority in
        subst (λ after. To None after) (sym (plan_activation_is core u found there plan))
        (other_starts t u core found (began (starts_now core (Some plan)) (record found { activation = Some plan })) (starts_now core (Some plan)) differ)

    by_test : (b : Bool) → nat_eq t u ≡ b → To (if b then asked_of core t start repeat named else None)
        (activated core u start repeat (priority_or_declared core u named))
    by_test true same =
        subst (λ v. To (asked_of core t start repeat named) (activated core v start repeat (priority_or_declared core v named)))
        (eqb-true t u same) (own (priority_or_declared core t named) (is_at_once start repeat))
    by_test false differ =
        other (eqb-false t u differ) (priority_or_declared core u named) (row_of core u) refl (is_at_once start repeat)

-- a millisecond passes
millisecond_does : (t : ℕ) (core : Core) (row : TaskRow) → row_of core t ≡ Some row → DormantKeepNone core →
    Does t (starts_now (record core { moment = core.moment + 1 }) (activation_of core t)) false core.told (mode_of core t) (kept_of core t)
    (millisecond core)
millisecond_does t core row at none =
    let later : Core = record core { moment = core.moment + 1 } in
    subst (λ start. Does t start false core.told (mode_of core t) (kept_of core t) (millisecond core))
    (sym (ap (λ r. starts_now later (activation_in r)) at))
    (subst (λ after. Does t (starts_now later row.activation) false core.told (mode_of core t) (kept_of core t) after) (sym (millisecond_is core))
    (starts_among t core row at none _ (served_row later) (λ r. starts_now later r.activation) (λ r. refl) refl refl))

-- an interrupt occurs
interrupted_does : (t : ℕ) (core : Core) (row : TaskRow) → row_of core t ≡ Some row → DormantKeepNone core → (device : ℕ) →
    Does t (asked_at core t device) false core.told (mode_of core t) (kept_of core t) (interrupted core device)
interrupted_does t core row at none device = by_test (is_enabled core device) refl
  where
    To : Option ℕ → Core → Type 0
    To start after = Does t start false core.told (mode_of core t) (kept_of core t) after

    by_test : (b : Bool) → is_enabled core device ≡ b → To (asked_at core t device) (interrupted core device)
    by_test true on =
        subst (λ start. To start (interrupted core device))
        (sym (ap (λ b. if b then starts_after core device (activation_of core t) else None) on
        ∙ ap (λ r. starts_after core device (activation_in r)) at))
        (subst (λ after. To (starts_after core device row.activation) after) (sym (occurred_is core device on))
        (starts_among t core row at none _ (reached_row core device) (λ r. starts_after core device r.activation) (λ r. refl) refl refl))
    by_test false off =
        subst (λ start. To start (interrupted core device))
        (sym (ap (λ b. if b then starts_after core device (activation_of core t) else None) off))
        (subst (λ after. To None after) (sym (masked_tells core device off))
        (quiet t core (note core (event.Masked device)) ((core.moment, Happened (event.Masked device)) ∷ []) refl refl refl))

-- ENDS

-- a task ends, this one or another
end_does : (t : ℕ) (core : Core) (u : ℕ) (e : Event) → is_end e ≡ true → is_of t e ≡ nat_eq t u →
    Does t None false core.told (mode_of core t) (kept_of core t) (ended_with core u e)
end_does t core u e ends is = by_test (nat_eq t u) refl
  where
    all : List Event
    all = e ∷ events_behind u (oldest (kept_of core u))

    told : (ended_with core u e).told ≡ core.told ++ happened_at core.moment all
    told = ap (λ c. c.told) (ended-rest core u e)

    -- what is told behind it
    own_behind : t ≡ u → (next : Option (ℕ × Kept)) → own_of t (events_behind u next) ≡ events_behind t next
    own_behind same None = refl
    own_behind same (Some (first, others)) =
        subst (λ v. own_of t (event.Start v first ∷ []) ≡ event.Start t first ∷ []) same (start_own t (Some first) Dormant kept.Nothing)

    other_behind : t ≢ u → (next : Option (ℕ × Kept)) → own_of t (events_behind u next) ≡ []
    other_behind differ None = refl
    other_behind differ (Some (first, others)) = start_other t u (Some first) Dormant kept.Nothing differ

    by_test : (b : Bool) → nat_eq t u ≡ b → Does t None false core.told (mode_of core t) (kept_of core t) (ended_with core u e)
    by_test true same =
        let here : t ≡ u = eqb-true t u same in
        does t None false core (ended_with core u e) (mode_of core t) (kept_of core t) (kept_behind (oldest (kept_of core t)))
        (e ∷ events_behind t (oldest (kept_of core t))) (happened_at core.moment all) refl refl
        (subst (λ v. kept_of (ended_with core u e) v ≡ kept_behind (oldest (kept_of core v))) (sym here) (ended-kept core u e))
        (of_happened t core.moment all ∙ own_first t e (events_behind u (oldest (kept_of core u))) (is ∙ same)
        ∙ ap (λ es. e ∷ es) (own_behind here (oldest (kept_of core u)) ∙ ap (λ v. events_behind t (oldest (kept_of core v))) (sym here)))
        told (end_suits t (mode_of core t) (kept_of core t) e ends)
    by_test false differ =
        quiet t core (ended_with core u e) (happened_at core.moment all) told
        (of_happened t core.moment all ∙ other_first t e (events_behind u (oldest (kept_of core u))) (is ∙ differ)
        ∙ other_behind (eqb-false t u differ) (oldest (kept_of core u)))
        (ap kept_in (ended-other core u t e (eqb-false t u differ)))

-- WHAT TELLS NOTHING

changed_told : (core : Core) (t : ℕ) (change : TaskRow → TaskRow) → (changed_row core t change).told ≡ core.told
changed_told core t change = by_row (row_of core t)
  where
    by_row : (row : Option TaskRow) → (on_row row core (λ r. with_row core t (change r))).told ≡ core.told
    by_row None = refl
    by_row (Some row) = refl

told_if : (told : List (ℕ × Report)) (b : Bool) (after other : Core) → after.told ≡ told → other.told ≡ told →
    (if b then after else other).told ≡ told
told_if told true after other is also = is
told_if told false after other is also = also

mark_told : (core : Core) (t : ℕ) (suspended : Bool) → (with_mark core t suspended).told ≡ core.told
mark_told core t suspended = changed_told core t (λ r. record r { mode = marked_mode suspended (mode_of core t) })

plan_told : (core : Core) (t : ℕ) (plan : Plan) → (plan_continuation core t plan).told ≡ core.told
plan_told core t plan =
    let new : Core = with_continuation core t (Some plan) in
    told_if new.told (serves_if new (continuation_of new t)) (continued new t) new
    (changed_told (with_mark new t false) t (λ r. record r { continuation = None }) ∙ mark_told new t false) refl
    ∙ changed_told core t (λ r. record r { continuation = Some plan })

continues_told : (core : Core) (t : ℕ) (start : Start) → (continues core t start).told ≡ core.told
continues_told core t start =
    told_if core.told (is_at_once start Once) (with_mark core t false)
    (if is_active core t then plan_continuation core t (planned core start Once) else core) (mark_told core t false)
    (told_if core.told (is_active core t) (plan_continuation core t (planned core start Once)) core
    (plan_told core t (planned core start Once)) refl)

resuming_told : (core : Core) (own : ℕ) (start : Start) → (resuming core own start).told ≡ core.told
resuming_told core own start = plan_told (with_mark core own true) own (planned core start Once) ∙ mark_told core own true

taken_told : (core : Core) (device : ℕ) → (without_value core device).told ≡ core.told
taken_told core device = by_channel (channel_of core device)
  where
    by_channel : (channel : Option Channel) → (without_value_by channel core device).told ≡ core.told
    by_channel None = refl
    by_channel (Some (Switch enabled)) = refl
    by_channel (Some (Bytes pending)) = refl
    by_channel (Some Outward) = refl
    by_channel (Some (Values kind pending)) = refl

-- WHAT COMES IN

module _ (t : ℕ) (core : Core) where
  abbrev Still : Core → Type 0
  Still after = Does t None false core.told (mode_of core t) (kept_of core t) after

  lost_does : (device : ℕ) → Still (note core (event.Lost device))
  lost_does device = quiet t core (note core (event.Lost device)) ((core.moment, Happened (event.Lost device)) ∷ []) refl refl refl

  bytes_does : (device : ℕ) (text : List ℕ) → Still (with_bytes core device text)
  bytes_does device text = by_test (nat_le (length (bytes_at core device ++ text)) terminal_room)
    where
      by_test : (b : Bool) → Still (if b then with_channel core device (Bytes (bytes_at core device ++ text)) else note core (event.Lost device))
      by_test true = calm t core _ refl refl
      by_test false = lost_does device

  value_does : (device : ℕ) (x : Cell) → Still (with_value core device x)
  value_does device x = by_channel (channel_of core device)
    where
      by_value : (kind : Kind) (pending : List Cell) (value : Result Cell Trap) → Still (joined core device kind pending value)
      by_value kind pending (Err trap) = calm t core core refl refl
      by_value kind pending (Ok y) = calm t core _ refl refl

      by_room : (kind : Kind) (pending : List Cell) (b : Bool) →
          Still (if b then joined core device kind pending (converted x kind) else note core (event.Lost device))
      by_room kind pending true = by_value kind pending (converted x kind)
      by_room kind pending false = lost_does device

      by_channel : (channel : Option Channel) → Still (with_value_by channel core device x)
      by_channel None = calm t core core refl refl
      by_channel (Some (Switch enabled)) = calm t core core refl refl
      by_channel (Some (Bytes pending)) = calm t core core refl refl
      by_channel (Some Outward) = calm t core core refl refl
      by_channel (Some (Values kind pending)) = by_room kind pending (nat_lt (length pending) input_room)

-- ACTIONS

effect_does : (t : ℕ) (core : Core) (row : TaskRow) → row_of core t ≡ Some row → DormantKeepNone core → (own : ℕ) (act : Action) →
    Does t (asked_by (record core { last = Some own }) t (Some act)) (prevents t (Some act)) core.told (mode_of core t) (kept_of core t)
    (effect core own act).core
unfolding effect
effect_does t core row at none own act = by_action act
  where
    acted : Core
    acted = record core { last = Some own }

    To : Option ℕ → Bool → Core → Type 0
    To start prevented after = Does t start prevented core.told (mode_of core t) (kept_of core t) after

    released : (list : List ℕ) (can_raise : Bool) → To None false (releasing acted own list can_raise).core
    released list true = calm t acted _ refl refl
    released list false = end_does t acted own (event.Trap own SemaLimit) refl refl

    tried : (s : ℕ) (is_free : Bool) → To None false (trying acted s is_free).core
    tried s true = calm t acted _ refl refl
    tried s false = calm t acted _ refl refl

    got : (device : ℕ) (scanned : Scanned) → To None false (getting acted own device scanned).core
    got device Short = end_does t acted own (event.End own) refl refl
    got device (Bad used) = end_does t (without_bytes acted device used) own (event.Trap own Format) refl refl
    got device (Got used values) = calm t acted _ refl refl

    took : (device : ℕ) (values : List Cell) → To None false (taking acted own device values).core
    took device [] = end_does t acted own (event.End own) refl refl
    took device (x ∷ later) =
        calm t acted (without_value acted device) (taken_told acted device)
        (same_tasks acted (without_value acted device) (taken_tasks acted device) t)

    stopped : (u : ℕ) (mode : Mode) → To None false (stopped_by mode acted u)
    stopped u Dormant = calm t acted acted refl refl
    stopped u (Active priority suspended) = end_does t acted u (event.Stop u) refl refl

    without : TaskRow → TaskRow
    without r = record r { kept = kept.Nothing; continuation = None; activation = None }

    prevented_by : (u : ℕ) (b : Bool) → nat_eq t u ≡ b → To None b (prevented acted u)
    prevented_by u true same =
        does t None true acted (prevented acted u) (mode_of acted t) (kept_of acted t) kept.Nothing [] [] refl refl
        (subst (λ v. kept_of (prevented acted v) t ≡ kept.Nothing) (eqb-true t u same) (prevented_none acted t)) refl
        (changed_told acted u without ∙ sym (append-nil core.told)) (prevent_suits t (mode_of acted t) (kept_of acted t))
    prevented_by u false differ =
        calm t acted (prevented acted u) (changed_told acted u without)
        (ap kept_in (changed-other acted u t without (eqb-false t u differ)))

    by_action : (act : Action) → To (asked_by acted t (Some act)) (prevents t (Some act)) (effect_of acted own act).core
    by_action (action.Read slot) = calm t acted _ refl refl
    by_action (action.Write slot value) = calm t acted _ refl refl
    by_action action.Turn = calm t acted _ refl refl
    by_action action.Enter = calm t acted _ refl refl
    by_action action.Now = calm t acted _ refl refl
    by_action (action.Request list) = calm t acted _ refl refl
    by_action (action.Release list) = released list.items (all_below_most core.counts list.items)
    by_action (action.Try s) = tried s (nat_lt 0 (count_at core.counts s))
    by_action (action.Activate u start repeat named) = activated_does t acted row at none u start repeat named
    by_action (action.Continue u start) = calm t acted (continues acted u start) (continues_told acted u start) (continues_same acted u start t)
    by_action (action.Resume start) = calm t acted (resuming acted own start) (resuming_told acted own start) (resuming_same acted own start t)
    by_action (action.Suspend u) = calm t acted (with_mark acted u true) (mark_told acted u true) (mark_same acted u true t)
    by_action (action.Terminate u) = stopped u (mode_of core u)
    by_action (action.Prevent u) = prevented_by u (nat_eq t u) refl
    by_action (action.Enable device) = calm t acted _ refl refl
    by_action (action.Disable device) = calm t acted _ refl refl
    by_action (action.Trigger device) = interrupted_does t acted row at none device
    by_action (action.Put device text) =
        quiet t acted (note acted (event.Out device text)) ((core.moment, Happened (event.Out device text)) ∷ []) refl refl refl
    by_action (action.Get device format kinds) = got device (scan (items_of core format) kinds.items (bytes_at core device))
    by_action (action.Take device) = took device (values_at core device)
    by_action (action.Send device value) =
        quiet t acted (note acted (event.Send device value)) ((core.moment, Happened (event.Send device value)) ∷ []) refl refl refl
    by_action action.End = end_does t acted own (event.End own) refl refl
    by_action (action.Trap trap) = end_does t acted own (event.Trap own trap) refl refl

-- MARKS

module _ (offer : Supplier) (s : Source) (t : ℕ) (row : TaskRow) (at : row_of s.core t ≡ Some row) (none : DormantKeepNone s.core) where
  abbrev To : Option ℕ → Bool → Source → Type 0
  To start prevented after = Does t start prevented s.core.told (mode_of s.core t) (kept_of s.core t) after.core

  acts_does : (u : ℕ) (rest : List Entry) (heard : Option (List Answer)) →
      To (asked_by (record s.core { last = Some u }) t (mapped (offer u) heard)) (prevents t (mapped (offer u) heard)) (source_acts offer s u rest heard)
  acts_does u rest None = calm t s.core s.core refl refl
  acts_does u rest (Some so_far) = effect_does t s.core row at none u (offer u so_far)

  arrives_does : (come : Entry) (rest : List Entry) →
      To (asked_in offer s t (Arrives come)) (prevents_in offer s t (Arrives come)) (source_mark offer s (Arrives come) rest)
  arrives_does (entry.Irpt device) rest = interrupted_does t s.core row at none device
  arrives_does (entry.Chars device text) rest = bytes_does t s.core device text.items
  arrives_does (entry.Line device text) rest = bytes_does t s.core device (text.items ++ 10 ∷ [])
  arrives_does (entry.Value device x) rest = value_does t s.core device x
  arrives_does (entry.Clock time) rest = calm t s.core _ refl refl
  arrives_does (entry.Run picks) rest = calm t s.core s.core refl refl
  arrives_does (entry.Tick milliseconds) rest = calm t s.core s.core refl refl
  arrives_does (entry.Pass times picks) rest = calm t s.core s.core refl refl
  arrives_does (entry.Turn task) rest = calm t s.core s.core refl refl
  arrives_does entry.State rest = calm t s.core s.core refl refl

  mark_does : (mark : Mark) (rest : List Entry) →
      To (asked_in offer s t mark) (prevents_in offer s t mark) (source_mark offer s mark rest)
  mark_does (Acts u) rest = acts_does u rest (kept_at s.heard u)
  mark_does (Turns u) rest =
      let is = turned-is s.core (source_offers offer s) u in
      calm t s.core (turned s.core (source_offers offer s) u) (ap (λ c. c.told) is) (ap (λ c. kept_of c t) is)
  mark_does Tells rest =
      quiet t s.core (showing s.core (source_offers offer s)) (states s.core (source_offers offer s)) refl
      (of_states t s.core (possible_of s.core (source_offers offer s)) (length s.core.tasks)) refl
  mark_does Passes rest = millisecond_does t s.core row at none
  mark_does (Arrives come) rest = arrives_does come rest

  step_does : To (asked offer s t) (prevents_if offer s t (source_next offer s)) (source_step offer s)
  unfolding source_step
  step_does = by_next (source_next offer s)
    where
      by_next : (next : Option Coming) → To (asked_if offer s t next) (prevents_if offer s t next) (source_step_by offer s next)
      by_next None = calm t s.core s.core refl refl
      by_next (Some coming) = mark_does coming.mark coming.rest

  -- what was told of the task in this mark
  told_is : told_of t s.core (source_step offer s).core ≡ of_task t step_does.more
  told_is =
      ap (λ told. of_task t (drop (length s.core.told) told)) step_does.tells
      ∙ ap (λ more. of_task t more) (drop-append_seam s.core.told step_does.more)

  suits_next : Suits t (asked offer s t) (prevents_if offer s t (source_next offer s)) (mode_of s.core t) (kept_of s.core t)
      (kept_of (source_step offer s).core t) (told_of t s.core (source_step offer s).core)
  suits_next =
      subst (λ told. Suits t (asked offer s t) (prevents_if offer s t (source_next offer s)) (mode_of s.core t) (kept_of s.core t)
      (kept_of (source_step offer s).core t) told) (sym told_is) step_does.suits

  pub answers_next : AnswersStart offer s t
  answers_next = suits_next.0

  pub queue_next : kept_list s.core t ++ kept_next offer s t
      ≡ map start_of (gone_next offer s t) ++ kept_list (source_step offer s).core t
  queue_next = suits_next.1

  pub serves_next : ServesOldest offer s t
  serves_next = record { serves = suits_next.2; prevents = suits_next.3 }
