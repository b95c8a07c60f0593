-- Which tasks an action ends, and which stay active; a millisecond and whatever comes in end none.
use Rattle.std.proofs.Common.{◌≡◌, ◌≢◌, ℕ, List, [], ◌∷◌, Bool, true, false, nat_eq, nat_lt, Option, Some, None, slice_get, refl, sym, ap, subst, ◌∙◌, eqb-true}
use Rattle.std.specs.List.{Contains}
use Rattle.std.proofs.lemmas.Bool.{true≢false, eqb-false}
use Rattle.pearl_value.specs.declared.cell.Cell.{Cell}
use Rattle.pearl_value.specs.declared.trap.Trap.TheVariants.{SemaLimit, Format}
use Rattle.pearl_rules.specs.declared.action.Action.{Action}
use Rattle.pearl_rules.specs.declared.action.Action.TheVariants as action
use Rattle.pearl_rules.specs.declared.action.Answer.{Answer}
use Rattle.pearl_rules.specs.declared.action.Answer.TheVariants.{Nothing, One, Many}
use Rattle.pearl_rules.specs.declared.entry.Entry.{Entry}
use Rattle.pearl_rules.specs.declared.event.Event.{Event}
use Rattle.pearl_rules.specs.declared.event.Event.TheVariants as event
use Rattle.pearl_rules.specs.declared.row.Kept.{Kept}
use Rattle.pearl_rules.specs.declared.row.Kept.TheVariants as kept
use Rattle.pearl_rules.specs.declared.row.Mode.{Mode}
use Rattle.pearl_rules.specs.declared.row.Mode.TheVariants.{Dormant, Active}
use Rattle.pearl_rules.specs.declared.row.TaskRow.{TaskRow}
use Rattle.pearl_rules.specs.Core.{Core, Channel, Switch, Bytes, Values, Outward, row_of, with_row, is_active_mode, is_active_row, is_active, mode_of_row, mode_of}
use Rattle.pearl_rules.specs.Counts.{count_at, all_below_most}
use Rattle.pearl_rules.specs.Plans.{on_row, priorities, oldest, kept_of, millisecond}
use Rattle.pearl_rules.specs.Devices.{channel_of, items_of, bytes_at, without_bytes, values_at, without_value_by, without_value, arrived}
use Rattle.pearl_rules.specs.Scan.{Scanned, Short, Bad, Got, scan}
use Rattle.pearl_rules.specs.Effect.{Hears, Ends, Effect, effect_of, effect, ended_with, prevented, answering, ending, priority_or_declared, stopped_by, stopped_tasks, reply_if_other, stopping, releasing, trying, getting, taking}
use Rattle.pearl_rules.specs.Laws.{mode_behind, kept_behind, IsOver, TellsEnds, ServesAtEnds}
use Rattle.pearl_rules.proofs.Behind.{ended-mode, ended-kept, ended-other, oldest-is}
use Rattle.pearl_rules.proofs.Places.{no_member, alone, only_member, set-same, set-other}
use Rattle.pearl_rules.proofs.Serving.{Stays, Closed, OnlyValues, mark-kept, millisecond-kept, interrupted-kept, activated-kept, continues-kept, resuming-kept, arrived-kept}
use Rattle.pearl_rules.proofs.EffectLaws.{AnyPriority, AnyPlan, any_continuation, any_activation, any_kept, ends_unheard}

-- HOW ONE TASK STANDS

-- whether a row is that of an active task
active_row : (row : Option TaskRow) → is_active_row row ≡ is_active_mode (mode_of_row row)
active_row None = refl
active_row (Some row) = refl

-- WHO STAYS ACTIVE

-- all who were active are so
abbrev AllLast : Core → Core → Type 0
AllLast old core = (u : ℕ) → is_active old u ≡ true → is_active core u ≡ true

module _ (old : Core) where
  -- another row of a task that is as active as before
  row_lasts : (core : Core) (t : ℕ) (row changed : TaskRow) → row_of core t ≡ Some row →
      (is_active_mode row.mode ≡ true → is_active_mode changed.mode ≡ true) → AllLast old core → AllLast old (with_row core t changed)
  row_lasts core t row changed at stays last u is = by_test (nat_eq u t) refl
    where
      by_test : (b : Bool) → nat_eq u t ≡ b → is_active (with_row core t changed) u ≡ true
      by_test true e =
          let same = eqb-true u t e in
          let here : is_active core t ≡ true = subst (λ v. is_active core v ≡ true) same (last u is) in
          subst (λ v. is_active (with_row core t changed) v ≡ true) (sym same)
          (ap is_active_row (set-same core.tasks t row changed at) ∙ stays (sym (ap is_active_row at) ∙ here))
      by_test false e = ap is_active_row (set-other core.tasks t u changed (eqb-false u t e)) ∙ last u is

  -- no task ends where a mode changes so
  stays_active : (before mode : Mode) → Stays AnyPriority before mode → is_active_mode before ≡ true → is_active_mode mode ≡ true
  stays_active Dormant mode stays is = let no : ⊥ = cc in absurd no
  stays_active (Active priority suspended) Dormant stays is = absurd stays
  stays_active (Active priority suspended) (Active own marked) stays is = refl

  lasts_closed : Closed AnyPriority AnyPlan (AllLast old)
  lasts_closed = record {
    told = λ core e last. last;
    stands = λ core t row mode kept at stays keeps last.
        row_lasts core t row (record row { mode = mode; kept = kept }) at (stays_active row.mode mode stays) last;
    goes_on = λ core t row plan at lawful last. row_lasts core t row (record row { continuation = plan }) at (λ is. is) last;
    starts = λ core t row plan at lawful last. row_lasts core t row (record row { activation = Some plan }) at (λ is. is) last;
    going = λ core t row at last. any_continuation row.continuation;
    starting = λ core t row at last. any_activation row.activation;
    keeping = λ core t row at last. any_kept row.kept;
    begins = λ core plan lawful. tt;
  }

  -- values don't tell who is active
  lasts_free : (core other : Core) → OnlyValues core other → AllLast old core → AllLast old other
  lasts_free core other only last u is = ap (λ rows. is_active_row (slice_get rows u)) only.tasks ∙ last u is

-- a task without plans, which keeps none, is as active as before
prevented_lasts : (core : Core) (t : ℕ) → AllLast core (prevented core t)
prevented_lasts core t = by_row (row_of core t) refl
  where
    by_row : (row : Option TaskRow) → row_of core t ≡ row →
        AllLast core (on_row row core (λ r. with_row core t (record r { kept = kept.Nothing; continuation = None; activation = None })))
    by_row None e = λ u is. is
    by_row (Some row) e =
        row_lasts core core t row (record row { kept = kept.Nothing; continuation = None; activation = None }) e (λ is. is) (λ u is. is)

-- no task ends in a millisecond
pub millisecond-lasts : (core : Core) (t : ℕ) → is_active core t ≡ true → is_active (millisecond core) t ≡ true
millisecond-lasts core = millisecond-kept AnyPriority AnyPlan (AllLast core) (lasts_closed core) core (λ u is. is)

-- nor by what comes in
pub arrived-lasts : (core : Core) (come : Entry) (t : ℕ) → is_active core t ≡ true → is_active (arrived core come) t ≡ true
arrived-lasts core come = arrived-kept AnyPriority AnyPlan (AllLast core) (lasts_closed core) (lasts_free core) core come (λ time same u is. is) (λ u is. is)

-- WHAT AN EFFECT TELLS

-- an end is no answer
pub no_end : (answer : Answer) → Hears answer ≡ Ends → ⊥
no_end answer e = cc

-- of an effect all at once: what it tells of ends, and how those that ended stand
record Tells (core : Core) (own : ℕ) (done : Effect) : Type 0 where
  ended : (t : ℕ) → is_active core t ≡ true → is_active done.core t ≡ false → Contains done.ended t
  stands : (t : ℕ) → Contains done.ended t → mode_of done.core t ≡ mode_behind (oldest (kept_of core t))
  keeps : (t : ℕ) → Contains done.ended t → kept_of done.core t ≡ kept_behind (oldest (kept_of core t))
  others : (t : ℕ) → (Contains done.ended t → ⊥) → is_active core t ≡ true → is_active done.core t ≡ true
  hears : (answer : Answer) → done.reply ≡ Hears answer → is_active core own ≡ true → is_active done.core own ≡ true
  goes_on : (answer : Answer) → done.reply ≡ Hears answer → Contains done.ended own → ⊥
  ends : done.reply ≡ Ends → kept_of core own ≡ kept.Nothing → mode_of done.core own ≡ Dormant
  own_ended : done.reply ≡ Ends → is_active core own ≡ true → Contains done.ended own

-- where every active task stays so and the one that acted hears an answer
all_last : (core : Core) (own : ℕ) (after : Core) (answer : Answer) → ((t : ℕ) → is_active core t ≡ true → is_active after t ≡ true) →
    Tells core own (answering after answer)
all_last core own after answer stays = record {
  ended = λ t is not. absurd (true≢false (sym (stays t is) ∙ not));
  stands = λ t inside. absurd (no_member t inside);
  keeps = λ t inside. absurd (no_member t inside);
  others = λ t outside is. stays t is;
  hears = λ heard e is. stays own is;
  goes_on = λ heard e inside. no_member own inside;
  ends = λ e none. absurd (no_end answer e);
  own_ended = λ e. absurd (no_end answer e);
}

module _ (core : Core) (t : ℕ) (e : Event) where
  -- another task stays as it is where one ends
  other_lasts : (u : ℕ) → u ≢ t → is_active (ended_with core t e) u ≡ is_active core u
  other_lasts u differ = ap is_active_row (ended-other core t u e differ)

  -- a task that is active and then dormant, where one ends, is that one
  is_ended : (u : ℕ) → is_active core u ≡ true → is_active (ended_with core t e) u ≡ false → Contains (t ∷ []) u
  is_ended u is not = by_test (nat_eq u t) refl
    where
      by_test : (b : Bool) → nat_eq u t ≡ b → Contains (t ∷ []) u
      by_test true same = alone t u (eqb-true u t same)
      by_test false differ = absurd (true≢false (sym is ∙ sym (other_lasts u (eqb-false u t differ)) ∙ not))

  -- how that one stands, and what it keeps
  stands_behind : (u : ℕ) → Contains (t ∷ []) u → mode_of (ended_with core t e) u ≡ mode_behind (oldest (kept_of core u))
  stands_behind u inside =
      subst (λ v. mode_of (ended_with core t e) v ≡ mode_behind (oldest (kept_of core v))) (sym (only_member t u inside)) (ended-mode core t e)

  keeps_behind : (u : ℕ) → Contains (t ∷ []) u → kept_of (ended_with core t e) u ≡ kept_behind (oldest (kept_of core u))
  keeps_behind u inside =
      subst (λ v. kept_of (ended_with core t e) v ≡ kept_behind (oldest (kept_of core v))) (sym (only_member t u inside)) (ended-kept core t e)

  -- where it kept nothing it is dormant
  dormant_behind : (u : ℕ) → Contains (t ∷ []) u → kept_of core u ≡ kept.Nothing → mode_of (ended_with core t e) u ≡ Dormant
  dormant_behind u inside none = stands_behind u inside ∙ ap (λ k. mode_behind (oldest k)) none

  -- and all others last
  outside_lasts : (u : ℕ) → (Contains (t ∷ []) u → ⊥) → is_active core u ≡ true → is_active (ended_with core t e) u ≡ true
  outside_lasts u outside is = other_lasts u (λ same. outside (alone t u same)) ∙ is

-- an end
ending_tells : (core : Core) (own : ℕ) (e : Event) → Tells core own (ending core own e)
ending_tells core own e = record {
  ended = λ t is not. is_ended core own e t is not;
  stands = λ t inside. stands_behind core own e t inside;
  keeps = λ t inside. keeps_behind core own e t inside;
  others = λ t outside is. outside_lasts core own e t outside is;
  hears = λ answer same is. absurd (ends_unheard answer same);
  goes_on = λ answer same. absurd (ends_unheard answer same);
  ends = λ same none. dormant_behind core own e own (alone own own refl) none;
  own_ended = λ same is. alone own own refl;
}

-- an end from outside
stopping_tells : (core : Core) (own t : ℕ) → Tells core own (stopping core own t)
stopping_tells core own t = by_mode (mode_of core t) refl (nat_eq t own) refl
  where
    done : Mode → Bool → Effect
    done mode is_own = record { core = stopped_by mode core t; reply = reply_if_other is_own; ended = stopped_tasks mode t }

    by_mode : (mode : Mode) → mode_of core t ≡ mode → (is_own : Bool) → nat_eq t own ≡ is_own → Tells core own (done mode is_own)
    by_mode Dormant at false other = all_last core own core Nothing (λ u is. is)
    by_mode Dormant at true same =
        let own_dormant : mode_of core own ≡ Dormant = subst (λ v. mode_of core v ≡ Dormant) (eqb-true t own same) at in
        let own_not : is_active core own ≡ false = active_row (row_of core own) ∙ ap is_active_mode own_dormant in
        record {
          ended = λ u is not. absurd (true≢false (sym is ∙ not));
          stands = λ u inside. absurd (no_member u inside);
          keeps = λ u inside. absurd (no_member u inside);
          others = λ u outside is. is;
          hears = λ answer e is. is;
          goes_on = λ answer e inside. no_member own inside;
          ends = λ e none. own_dormant;
          own_ended = λ e is. absurd (true≢false (sym is ∙ own_not));
        }
    by_mode (Active priority suspended) at false other = record {
      ended = λ u is not. is_ended core t (event.Stop t) u is not;
      stands = λ u inside. stands_behind core t (event.Stop t) u inside;
      keeps = λ u inside. keeps_behind core t (event.Stop t) u inside;
      others = λ u outside is. outside_lasts core t (event.Stop t) u outside is;
      hears = λ answer e is. other_lasts core t (event.Stop t) own (λ same. eqb-false t own other (sym same)) ∙ is;
      goes_on = λ answer e inside. eqb-false t own other (sym (only_member t own inside));
      ends = λ e none. absurd (no_end Nothing e);
      own_ended = λ e. absurd (no_end Nothing e);
    }
    by_mode (Active priority suspended) at true same = record {
      ended = λ u is not. is_ended core t (event.Stop t) u is not;
      stands = λ u inside. stands_behind core t (event.Stop t) u inside;
      keeps = λ u inside. keeps_behind core t (event.Stop t) u inside;
      others = λ u outside is. outside_lasts core t (event.Stop t) u outside is;
      hears = λ answer e is. absurd (ends_unheard answer e);
      goes_on = λ answer e. absurd (ends_unheard answer e);
      ends = λ e none. dormant_behind core t (event.Stop t) own (alone t own (sym (eqb-true t own same))) none;
      own_ended = λ e is. alone t own (sym (eqb-true t own same));
    }

-- a release
releasing_tells : (core : Core) (own : ℕ) (semaphores : List ℕ) (can_raise : Bool) → Tells core own (releasing core own semaphores can_raise)
releasing_tells core own semaphores true = all_last core own _ Nothing (λ t is. is)
releasing_tells core own semaphores false = ending_tells core own (event.Trap own SemaLimit)

-- a try
trying_tells : (core : Core) (own semaphore : ℕ) (is_free : Bool) → Tells core own (trying core semaphore is_free)
trying_tells core own semaphore true = all_last core own _ _ (λ t is. is)
trying_tells core own semaphore false = all_last core own core _ (λ t is. is)

-- who acted last is no part of it
since_last : (core : Core) (own : ℕ) (done : Effect) → Tells (record core { last = Some own }) own done → Tells core own done
since_last core own done tells = record {
  ended = tells.ended;
  stands = tells.stands;
  keeps = tells.keeps;
  others = tells.others;
  hears = tells.hears;
  goes_on = tells.goes_on;
  ends = tells.ends;
  own_ended = tells.own_ended;
}

-- what is read from a terminal
getting_tells : (core : Core) (own device : ℕ) (scanned : Scanned) → Tells core own (getting core own device scanned)
getting_tells core own device Short = ending_tells core own (event.End own)
getting_tells core own device (Bad used) =
    let tells = ending_tells (without_bytes core device used) own (event.Trap own Format) in
    record {
      ended = tells.ended;
      stands = tells.stands;
      keeps = tells.keeps;
      others = tells.others;
      hears = tells.hears;
      goes_on = tells.goes_on;
      ends = tells.ends;
      own_ended = tells.own_ended;
    }
getting_tells core own device (Got used values) = all_last core own _ (Many (record { items = values })) (λ t is. is)

-- what is taken from an input
taking_tells : (core : Core) (own device : ℕ) (values : List Cell) → Tells core own (taking core own device values)
taking_tells core own device [] = ending_tells core own (event.End own)
taking_tells core own device (x ∷ values) = all_last core own (without_value core device) (One x) (by_channel (channel_of core device))
  where
    by_channel : (channel : Option Channel) → AllLast core (without_value_by channel core device)
    by_channel None u is = is
    by_channel (Some (Switch enabled)) u is = is
    by_channel (Some (Bytes pending)) u is = is
    by_channel (Some (Values kind pending)) u is = is
    by_channel (Some Outward) u is = is

-- every action
effect-tells : (core : Core) (own : ℕ) (action : Action) → Tells core own (effect core own action)
unfolding effect
effect-tells core own asked = since_last core own _ (by_action asked)
  where
    acted : Core
    acted = record core { last = Some own }

    -- nobody ends
    none : (after : Core) (answer : Answer) → AllLast acted after → Tells acted own (answering after answer)
    none after answer last = all_last acted own after answer last

    by_action : (asked : Action) → Tells acted own (effect_of acted own asked)
    by_action (action.Read slot) = none acted _ (λ t is. is)
    by_action (action.Write slot value) = none _ Nothing (λ t is. is)
    by_action action.Turn = none acted Nothing (λ t is. is)
    by_action action.Enter = none acted Nothing (λ t is. is)
    by_action action.Now = none acted _ (λ t is. is)
    by_action (action.Request list) = none _ Nothing (λ t is. is)
    by_action (action.Release list) = releasing_tells acted own list.items (all_below_most core.counts list.items)
    by_action (action.Try s) = trying_tells acted own s (nat_lt 0 (count_at core.counts s))
    by_action (action.Activate t start repeat priority) = none _ Nothing
        (activated-kept AnyPriority AnyPlan (AllLast acted) (lasts_closed acted) acted t start repeat (priority_or_declared acted t priority)
        (λ row at. tt) tt (λ u is. is))
    by_action (action.Continue t start) =
        none _ Nothing (continues-kept AnyPriority AnyPlan (AllLast acted) (lasts_closed acted) acted t start tt (λ u is. is))
    by_action (action.Resume start) =
        none _ Nothing (resuming-kept AnyPriority AnyPlan (AllLast acted) (lasts_closed acted) acted own start tt (λ u is. is))
    by_action (action.Suspend t) = none _ Nothing (mark-kept AnyPriority AnyPlan (AllLast acted) (lasts_closed acted) acted t true (λ u is. is))
    by_action (action.Terminate t) = stopping_tells acted own t
    by_action (action.Prevent t) = none _ Nothing (prevented_lasts acted t)
    by_action (action.Enable device) = none _ Nothing (λ t is. is)
    by_action (action.Disable device) = none _ Nothing (λ t is. is)
    by_action (action.Trigger device) =
        none _ Nothing (interrupted-kept AnyPriority AnyPlan (AllLast acted) (lasts_closed acted) acted device (λ u is. is))
    by_action (action.Put device text) = none _ Nothing (λ t is. is)
    by_action (action.Get device format kinds) =
        getting_tells acted own device (scan (items_of core format) kinds.items (bytes_at core device))
    by_action (action.Take device) = taking_tells acted own device (values_at core device)
    by_action (action.Send device value) = none _ Nothing (λ t is. is)
    by_action action.End = ending_tells acted own (event.End own)
    by_action (action.Trap trap) = ending_tells acted own (event.Trap own trap)

-- a task whose life is over is dormant, or active and not suspended
over_behind : (next : Option (ℕ × Kept)) → IsOver (mode_behind next)
over_behind None = tt
over_behind (Some (first, others)) = refl

pub effect-ends : (core : Core) (own : ℕ) (action : Action) → TellsEnds core own (effect core own action)
effect-ends core own asked =
    let tells = effect-tells core own asked in
    record {
      ended = tells.ended;
      others = tells.others;
      over = λ t inside. subst IsOver (sym (tells.stands t inside)) (over_behind (oldest (kept_of core t)));
      hears = tells.hears;
      goes_on = tells.goes_on;
      ends = tells.own_ended;
    }

-- a task that ends is started with the oldest start that it kept
pub effect-serves : (core : Core) (own : ℕ) (action : Action) → ServesAtEnds core own (effect core own action)
effect-serves core own asked =
    let tells = effect-tells core own asked in
    record {
      dormant = λ t inside none. tells.stands t inside ∙ ap (λ k. mode_behind (oldest k)) none;
      serves = λ t first others inside is.
          let next = oldest-is (kept_of core t) first others is in
          (tells.stands t inside ∙ ap mode_behind next.1, ap priorities (tells.keeps t inside ∙ ap kept_behind next.1) ∙ next.2);
      ends = tells.ends;
    }
