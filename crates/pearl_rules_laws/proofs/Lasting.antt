-- Over a run no dormant task keeps a start, and the starts that a task keeps leave in their order.
use Rattle.std.proofs.Common.{◌≡◌, ◌⊎◌, inl, inr, ℕ, zero, suc, ◌<◌, List, ◌++◌, Bool, true, false, nat_eq, Option, Some, None, option_map, map, length, slice_get, refl, sym, ap, subst, ◌∙◌, eqb-true, append-nil, append_assoc}
use Rattle.std.specs.List.{AllByRecursion}
use Rattle.std.proofs.lemmas.Bool.{eqb-false, true≢false}
use Rattle.std.proofs.lemmas.List.{length-map, map-append}
use Rattle.std.proofs.lemmas.Option.{slice_get-map}
use Rattle.pearl_rules.specs.declared.action.Action.{Action}
use Rattle.pearl_rules.specs.declared.action.Answer.{Answer}
use Rattle.pearl_rules.specs.declared.entry.Entry.{Entry}
use Rattle.pearl_rules.specs.declared.row.Kept.{Kept}
use Rattle.pearl_rules.specs.declared.row.Kept.TheVariants as kept
use Rattle.pearl_rules.specs.declared.row.Mode.{Mode}
use Rattle.pearl_rules.specs.declared.row.Mode.TheVariants.{Dormant, Active}
use Rattle.pearl_rules.specs.declared.row.TaskRow.{TaskRow}
use Rattle.pearl_rules.specs.declared.setup.Setup.{Setup}
use Rattle.pearl_rules.specs.declared.setup.TaskEntry.{TaskEntry}
use Rattle.pearl_rules.specs.Core.{Core, row_of, with_row, mode_of_row, mode_of, is_active_mode, first_row, opening}
use Rattle.pearl_rules.specs.Plans.{priorities, kept_in, kept_of, millisecond}
use Rattle.pearl_rules.specs.Devices.{arrived}
use Rattle.pearl_rules.specs.Effect.{effect}
use Rattle.pearl_rules.specs.Pick.{Offered, turned, showing}
use Rattle.pearl_rules.specs.Runs.{Mark, Acts, Turns, Tells, Passes, Arrives, Coming, kept_at, Supplier, Source, source_offers, source_next, source_acts, source_mark, source_step_by, source_step, source_start, source_after, source_run}
use Rattle.pearl_rules.proofs.Offered.{AnyPriority, AnyPlan, any_continuation, any_activation, any_kept, any_brings}
use Rattle.pearl_rules.proofs.Offered.{set-same, set-other, there_at, turned-is, Stays, Closed, ClosedAtEnds, IsFree}
use Rattle.pearl_rules.proofs.Offered.{millisecond-kept, arrived-kept, effect-free, effect-length, millisecond-length, arrived-length}
use Rattle.pearl_rules_laws.specs.Kept.{DormantKeepNone, kept_list}
use Rattle.pearl_rules_laws.specs.Queue.{AnswersStart, ServesOldest, start_of, kept_next, gone_next, kept_over, gone_over}
use Rattle.pearl_rules_laws.proofs.Queueing.{answers_next, queue_next, serves_next}

-- EACH MARK

-- what actions, turns, milliseconds and whatever comes in keep, and what isn't of what was told
record Lasts (P : Core → Type 0) : Type 0 where
  acts : (core : Core) (own : ℕ) (act : Action) → P core → P (effect core own act).core
  turns : (core : Core) (offers : Offered) (u : ℕ) → P core → P (turned core offers u)
  tells : (core : Core) (offers : Offered) → P core → P (showing core offers)
  passes : (core : Core) → P core → P (millisecond core)
  arrives : (core : Core) (come : Entry) → P core → P (arrived core come)

module _ (P : Core → Type 0) (lasts : Lasts P) (offer : Supplier) where
  step_lasts : (s : Source) → P s.core → P (source_step offer s).core
  unfolding source_step
  step_lasts s p = by_next (source_next offer s)
    where
      by_heard : (u : ℕ) (rest : List Entry) (heard : Option (List Answer)) → P (source_acts offer s u rest heard).core
      by_heard u rest None = p
      by_heard u rest (Some so_far) = lasts.acts s.core u (offer u so_far) p

      by_mark : (mark : Mark) (rest : List Entry) → P (source_mark offer s mark rest).core
      by_mark (Acts u) rest = by_heard u rest (kept_at s.heard u)
      by_mark (Turns u) rest = lasts.turns s.core (source_offers offer s) u p
      by_mark Tells rest = lasts.tells s.core (source_offers offer s) p
      by_mark Passes rest = lasts.passes s.core p
      by_mark (Arrives come) rest = lasts.arrives s.core come p

      by_next : (next : Option Coming) → P (source_step_by offer s next).core
      by_next None = p
      by_next (Some coming) = by_mark coming.mark coming.rest

  after_lasts : (s : Source) (m : ℕ) → P s.core → P (source_after offer s m).core
  after_lasts s zero p = p
  after_lasts s (suc m) p = step_lasts (source_after offer s m) (after_lasts s m p)

-- NO DORMANT TASK KEEPS A START

-- one row changes, and is no such one
row_keeps_none : (core : Core) (t : ℕ) (row changed : TaskRow) → row_of core t ≡ Some row →
    (changed.mode ≡ Dormant → changed.kept ≡ kept.Nothing) → DormantKeepNone core → DormantKeepNone (with_row core t changed)
row_keeps_none core t row changed at none_here none u = by_test (nat_eq u t) refl
  where
    here : row_of (with_row core t changed) t ≡ Some changed
    here = set-same core.tasks t row changed at

    by_test : (b : Bool) → nat_eq u t ≡ b → mode_of (with_row core t changed) u ≡ Dormant → kept_of (with_row core t changed) u ≡ kept.Nothing
    by_test true same =
        subst (λ v. mode_of (with_row core t changed) v ≡ Dormant → kept_of (with_row core t changed) v ≡ kept.Nothing)
        (sym (eqb-true u t same)) (λ dormant. ap kept_in here ∙ none_here (sym (ap mode_of_row here) ∙ dormant))
    by_test false differ = λ dormant.
        let other = set-other core.tasks t u changed (eqb-false u t differ) in
        ap kept_in other ∙ none u (sym (ap mode_of_row other) ∙ dormant)

-- what a row itself says of it
row_none : (core : Core) (t : ℕ) (row : TaskRow) → row_of core t ≡ Some row → DormantKeepNone core → row.mode ≡ Dormant → row.kept ≡ kept.Nothing
row_none core t row at none dormant = sym (ap kept_in at) ∙ none t (ap mode_of_row at ∙ dormant)

-- a mode that may come without an end, and what may be kept in it
stays_none : (before mode : Mode) (had held : Kept) → Stays AnyPriority before mode →
    (held ≡ had) ⊎ ((is_active_mode mode ≡ true) × AllByRecursion AnyPriority (priorities held)) →
    (before ≡ Dormant → had ≡ kept.Nothing) → mode ≡ Dormant → held ≡ kept.Nothing
stays_none Dormant mode had held stays (inl same) none is = same ∙ none refl
stays_none (Active own suspended) Dormant had held stays (inl same) none is = absurd stays
stays_none (Active own suspended) (Active priority after) had held stays (inl same) none is =
    absurd (true≢false (ap is_active_mode is))
stays_none before mode had held stays (inr active) none is = absurd (true≢false (sym active.0 ∙ ap is_active_mode is))

none_closed : Closed AnyPriority AnyPlan DormantKeepNone
none_closed = record {
  told = λ core e none. none;
  stands = λ core t row mode held at stays keeps none.
      row_keeps_none core t row (record row { mode = mode; kept = held }) at
      (stays_none row.mode mode row.kept held stays keeps (row_none core t row at none)) none;
  goes_on = λ core t row plan at lawful none. row_keeps_none core t row (record row { continuation = plan }) at (row_none core t row at none) none;
  starts = λ core t row plan at lawful none. row_keeps_none core t row (record row { activation = Some plan }) at (row_none core t row at none) none;
  going = λ core t row at none. any_continuation row.continuation;
  starting = λ core t row at none. any_activation row.activation;
  keeping = λ core t row at none. any_kept row.kept;
  begins = λ core plan lawful. tt;
}

none_at_ends : ClosedAtEnds DormantKeepNone
none_at_ends = record {
  ends = λ core t row at none. row_keeps_none core t row (record row { mode = Dormant; kept = kept.Nothing; continuation = None }) at (λ is. refl) none;
  prevents = λ core t row at none. row_keeps_none core t row (record row { kept = kept.Nothing; continuation = None; activation = None }) at (λ is. refl) none;
}

-- the same rows
none_moved : (core other : Core) → other.tasks ≡ core.tasks → DormantKeepNone core → DormantKeepNone other
none_moved core other same none =
    subst (λ rows. (t : ℕ) → mode_of_row (slice_get rows t) ≡ Dormant → kept_in (slice_get rows t) ≡ kept.Nothing) (sym same) none

none_free : IsFree DormantKeepNone
none_free = λ core other only none. none_moved core other only.tasks none

none_lasts : Lasts DormantKeepNone
none_lasts = record {
  acts = λ core own act none. effect-free AnyPriority AnyPlan DormantKeepNone none_closed none_free none_at_ends core own act (any_brings core act) none;
  turns = λ core offers u none. none_moved core (turned core offers u) (ap (λ c. c.tasks) (turned-is core offers u)) none;
  tells = λ core offers none. none;
  passes = λ core none. millisecond-kept AnyPriority AnyPlan DormantKeepNone none_closed core none;
  arrives = λ core come none. arrived-kept AnyPriority AnyPlan DormantKeepNone none_closed none_free core come (λ time is. none) none;
}

there_lasts : (t : ℕ) → Lasts (λ core. t < length core.tasks)
there_lasts t = record {
  acts = λ core own act less. subst (λ n. t < n) (sym (effect-length core own act)) less;
  turns = λ core offers u less. subst (λ rows. t < length rows) (sym (ap (λ c. c.tasks) (turned-is core offers u))) less;
  tells = λ core offers less. less;
  passes = λ core less. subst (λ n. t < n) (sym (millisecond-length core)) less;
  arrives = λ core come less. subst (λ n. t < n) (sym (arrived-length core come)) less;
}

-- AT THE START

none_first : (setup : Setup) (t : ℕ) → kept_of (opening setup) t ≡ kept.Nothing
none_first setup t = ap kept_in (slice_get-map first_row setup.tasks t) ∙ by_task (slice_get setup.tasks t)
  where
    by_task : (task : Option TaskEntry) → kept_in (option_map first_row task) ≡ kept.Nothing
    by_task None = refl
    by_task (Some task) = refl

there_first : (setup : Setup) (t : ℕ) → t < length setup.tasks → t < length (opening setup).tasks
there_first setup t less = subst (λ n. t < n) (sym (length-map setup.tasks first_row)) less

-- WHOLE RUNS

pub dormant_keep_none : (offer : Supplier) (setup : Setup) (es : List Entry) (m : ℕ) → DormantKeepNone (source_run offer setup es m).core
dormant_keep_none offer setup es m =
    after_lasts DormantKeepNone none_lasts offer (source_start setup es) m (λ t dormant. none_first setup t)

pub starts_answered : (offer : Supplier) (s : Source) (t : ℕ) → DormantKeepNone s.core → t < length s.core.tasks → AnswersStart offer s t
starts_answered offer s t none less =
    let at = there_at s.core.tasks t less in
    answers_next offer s t at.0 at.1 none

pub run_answers : (offer : Supplier) (setup : Setup) (es : List Entry) (m t : ℕ) → t < length setup.tasks →
    AnswersStart offer (source_run offer setup es m) t
run_answers offer setup es m t less =
    starts_answered offer (source_run offer setup es m) t (dormant_keep_none offer setup es m)
    (after_lasts (λ core. t < length core.tasks) (there_lasts t) offer (source_start setup es) m (there_first setup t less))

pub oldest_served : (offer : Supplier) (s : Source) (t : ℕ) → DormantKeepNone s.core → t < length s.core.tasks → ServesOldest offer s t
oldest_served offer s t none less =
    let at = there_at s.core.tasks t less in
    serves_next offer s t at.0 at.1 none

pub run_serves : (offer : Supplier) (setup : Setup) (es : List Entry) (m t : ℕ) → t < length setup.tasks →
    ServesOldest offer (source_run offer setup es m) t
run_serves offer setup es m t less =
    oldest_served offer (source_run offer setup es m) t (dormant_keep_none offer setup es m)
    (after_lasts (λ core. t < length core.tasks) (there_lasts t) offer (source_start setup es) m (there_first setup t less))

pub queue_after : (offer : Supplier) (s : Source) (t m : ℕ) → DormantKeepNone s.core → t < length s.core.tasks →
    kept_list s.core t ++ kept_over offer s t m ≡ map start_of (gone_over offer s t m) ++ kept_list (source_after offer s m).core t
queue_after offer s t zero none less = append-nil (kept_list s.core t)
queue_after offer s t (suc m) none less =
    let here = source_after offer s m in
    let first = kept_list s.core t in
    let now = kept_list here.core t in
    let last = kept_list (source_step offer here).core t in
    let gone = map start_of (gone_over offer s t m) in
    let goes = map start_of (gone_next offer here t) in
    let at = there_at here.core.tasks t (after_lasts (λ core. t < length core.tasks) (there_lasts t) offer s m less) in
    sym (append_assoc first (kept_over offer s t m) (kept_next offer here t))
    ∙ ap (λ list. list ++ kept_next offer here t) (queue_after offer s t m none less)
    ∙ append_assoc gone now (kept_next offer here t)
    ∙ ap (λ list. gone ++ list) (queue_next offer here t at.0 at.1 (after_lasts DormantKeepNone none_lasts offer s m none))
    ∙ sym (append_assoc gone goes last)
    ∙ ap (λ list. list ++ last) (sym (map-append start_of (gone_over offer s t m) (gone_next offer here t)))

pub run_queue : (offer : Supplier) (setup : Setup) (es : List Entry) (m t : ℕ) → t < length setup.tasks →
    kept_over offer (source_start setup es) t m
    ≡ map start_of (gone_over offer (source_start setup es) t m) ++ kept_list (source_run offer setup es m).core t
run_queue offer setup es m t less =
    ap (λ list. list ++ kept_over offer (source_start setup es) t m) (sym (ap priorities (none_first setup t)))
    ∙ queue_after offer (source_start setup es) t m (λ u dormant. none_first setup u) (there_first setup t less)
