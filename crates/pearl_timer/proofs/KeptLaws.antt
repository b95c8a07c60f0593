-- What a wheel keeps of a timer's series, when one changes and when the wheel moves on.
use Rattle.std.proofs.Common.{◌≡◌, ◌≢◌, ℕ, zero, suc, ◌+◌, ◌-◌, ◌^◌, ◌<◌, ◌≤◌, ◌⊎◌, inl, inr, Bool, true, false, ◌||◌, nat_lt, cond, List, Option, Some, None, length, get_or, set, replicate, refl, sym, ap, subst, ◌∙◌, arith, ltb-false, length-set, get_or-set_same, get_or-set_other}
use Rattle.std.specs.Prelude.{IsTrue, IfSome}
use Rattle.std.specs.List.{count_by}
use Rattle.std.proofs.lemmas.Bool.{cases_eq, cases_lt, lt-ltb, le-ltb, lt-leb, le-leb, false≢true}
use Rattle.std.proofs.lemmas.List.{get_or_past, get_or-replicate, length-replicate, set-set}
use Rattle.std.proofs.lemmas.List.Sums.{sum_by-set}
use Rattle.pearl_rules.specs.declared.series.Series.{Series}
use Rattle.pearl_timer.specs.declared.timer.Which.{Which}
use Rattle.pearl_timer.specs.declared.timer.Which.TheVariants.{Continuation, Activation}
use Rattle.pearl_rules.specs.Series.{fires_if}
use Rattle.pearl_timer.specs.Next.{IsNext, NoneIsNext}
use Rattle.pearl_timer.specs.Timetable.{Timetable, IsDue, of_kind, kept, changed, due}
use Rattle.pearl_timer.specs.Wheel.{Moments, moment_of, EachMoment, IsLeastMoment, IsDueBy}
use Rattle.pearl_timer.specs.Kept.{both, key_of, series_of, FiresOf, near, is_far, IsRight, IsRightOrDue, IsKept, IsKeptIf, Notes, IsMoving, is_due}
use Rattle.pearl_timer.proofs.TimetableLaws.{NextOf}
use Rattle.pearl_timer.proofs.WheelLaws.{moment_within}

-- KEYS

pub series_of_key : (timetable : Timetable) (which : Which) (task : ℕ) → task < 200 → series_of timetable (key_of which task) ≡ kept timetable task which
series_of_key timetable Continuation task small =
    ap (λ b. cond b (get_or timetable.continuations task None) (get_or timetable.activations (task - 200) None)) (lt-ltb task 200 small)
series_of_key timetable Activation task small =
    let back : task + 200 - 200 ≡ task = omega arith in
    ap (λ b. cond b (get_or timetable.continuations (task + 200) None) (get_or timetable.activations (task + 200 - 200) None)) (le-ltb (task + 200) 200 (omega arith))
    ∙ ap (λ k. get_or timetable.activations k None) back

-- the kind and the task of a key
pub key_is : (key : ℕ) → key < 400 → (which : Which) × (task : ℕ) × (task < 200) × (key ≡ key_of which task)
key_is key small = elim (cases_lt key 200) [
  | inl low ↦ (Continuation, key, low, refl)
  | inr high ↦ (Activation, key - 200, omega arith, omega arith)
]

pub key_small : (which : Which) (task : ℕ) → task < 200 → key_of which task < 400
key_small Continuation task small = omega arith
key_small Activation task small = omega arith

-- the series of one key changes
pub this_series : (timetable : Timetable) (which : Which) (task : ℕ) (series : Option Series) → task < length (of_kind which timetable) → task < 200 →
    series_of (changed timetable task which series) (key_of which task) ≡ series
this_series timetable Continuation task series there small =
    series_of_key (changed timetable task Continuation series) Continuation task small ∙ get_or-set_same timetable.continuations task series None there
this_series timetable Activation task series there small =
    series_of_key (changed timetable task Activation series) Activation task small ∙ get_or-set_same timetable.activations task series None there

pub other_series : (timetable : Timetable) (which : Which) (task : ℕ) (series : Option Series) (key : ℕ) → key ≢ key_of which task →
    series_of (changed timetable task which series) key ≡ series_of timetable key
other_series timetable Continuation task series key differs =
    ap (λ s. cond (nat_lt key 200) s (get_or timetable.activations (key - 200) None)) (get_or-set_other timetable.continuations task key series None differs)
other_series timetable Activation task series key differs = elim (cases_lt key 200) [
  | inl low ↦ ap (λ b. cond b (get_or timetable.continuations key None) (get_or (set timetable.activations task series) (key - 200) None)) (lt-ltb key 200 low)
      ∙ sym (ap (λ b. cond b (get_or timetable.continuations key None) (get_or timetable.activations (key - 200) None)) (lt-ltb key 200 low))
  | inr high ↦ ap (λ s. cond (nat_lt key 200) (get_or timetable.continuations key None) s) (get_or-set_other timetable.activations task (key - 200) series None (λ e. differs (omega arith)))
]

as_many : (timetable : Timetable) (which : Which) (task : ℕ) (series : Option Series) (other : Which) → length (of_kind other (changed timetable task which series)) ≡ length (of_kind other timetable)
as_many timetable Continuation task series Continuation = length-set timetable.continuations task series
as_many timetable Continuation task series Activation = refl
as_many timetable Activation task series Continuation = refl
as_many timetable Activation task series Activation = length-set timetable.activations task series

-- ONE NEXT MOMENT

or_far : (b far : Bool) → IsTrue far → IsTrue (b || far)
or_far true far is = refl
or_far false far is = is

more_far : (Fires : ℕ → Type 0) (after : ℕ) (b far : Bool) (next : Option ℕ) → IsRight Fires after far next → IsRight Fires after (b || far) next
more_far Fires after b far None right = λ u fires later. let h = right u fires later in (or_far b far h.0, h.1)
more_far Fires after b far (Some t) right = right

more_far_or_due : (Fires : ℕ → Type 0) (after : ℕ) (b far : Bool) (next : Option ℕ) → IsRightOrDue Fires after far next → IsRightOrDue Fires after (b || far) next
more_far_or_due Fires after b far None right = λ u fires later. let h = right u fires later in (or_far b far h.0, h.1)
more_far_or_due Fires after b far (Some t) right = right

-- the part that the wheel keeps, and the note that it is far
near_is_right : (Fires : ℕ → Type 0) (after : ℕ) (far : Bool) (next : Option ℕ) → NextOf Fires after next → IsRight Fires after (is_far next || far) (near next)
near_is_right Fires after far None none = λ u fires later. absurd (none u fires later)
near_is_right Fires after far (Some t) is = by_test (nat_lt t (2 ^ 42)) refl
  where
    by_test : (b : Bool) → nat_lt t (2 ^ 42) ≡ b → IsRight Fires after (cond b false true || far) (cond b (Some t) None)
    by_test true e = is
    by_test false e = λ u fires later. let least = is.least u fires later in let high = ltb-false t (2 ^ 42) e in (refl, omega (arith, high, least))

right_or_due : (Fires : ℕ → Type 0) (after : ℕ) (far : Bool) (next : Option ℕ) → IsRight Fires after far next → IsRightOrDue Fires after far next
right_or_due Fires after far None right = right
right_or_due Fires after far (Some t) right = inr right

-- what is right stays so until its moment comes
on_the_way : (Fires : ℕ → Type 0) (elapsed after : ℕ) (far : Bool) (next : Option ℕ) → elapsed ≤ after → IsRight Fires elapsed far next → IsRightOrDue Fires after far next
on_the_way Fires elapsed after far None forward right = λ u fires later. right u fires (omega arith)
on_the_way Fires elapsed after far (Some t) forward right = elim (cases_lt after t) [
  | inl ahead ↦ inr (record { fires = right.fires; later = ahead; least = λ u fires later. right.least u fires (omega arith) })
  | inr due ↦ inl due
]

-- ALL OF THEM

none_series : (n m key : ℕ) → series_of (both (replicate n None) (replicate m None)) key ≡ None
none_series n m key = by_test (nat_lt key 200)
  where
    none : (n i : ℕ) → get_or (replicate {A = Option Series} n None) i None ≡ None
    none zero i = refl
    none (suc n) zero = refl
    none (suc n) (suc i) = none n i

    by_test : (b : Bool) → cond b (get_or (replicate {A = Option Series} n None) key None) (get_or (replicate m None) (key - 200) None) ≡ None
    by_test true = none n key
    by_test false = none m (key - 200)

pub kept_at_first : (tasks : ℕ) → tasks ≤ 200 → IsKept (both (replicate tasks None) (replicate tasks None)) (record { elapsed = 0; moments = replicate 400 None }) false
kept_at_first tasks small = record {
  few = few;
  keys = length-replicate {A = Option ℕ} 400 None;
  right = λ key within. subst (IsRight (FiresOf (both (replicate tasks None) (replicate tasks None)) key) 0 false) (sym (get_or-replicate {A = Option ℕ} 400 key None None within))
      (λ u fires later. absurd (false≢true (subst (λ s. IsTrue (fires_if s u)) (none_series tasks tasks key) fires)));
}
  where
    few : (which : Which) → length (of_kind which (both (replicate tasks None) (replicate tasks None))) ≤ 200
    few Continuation = omega (arith, length-replicate {A = Option Series} tasks None, small)
    few Activation = omega (arith, length-replicate {A = Option Series} tasks None, small)

-- one series changes
pub kept_changed : (timetable : Timetable) (wheel : Moments) (far : Bool) → IsKept timetable wheel far → (which : Which) (task : ℕ) (series : Option Series) (next : Option ℕ) →
    task < length (of_kind which timetable) → NextOf (λ t. IsTrue (fires_if series t)) wheel.elapsed next →
    IsKept (changed timetable task which series) (record wheel { moments = set wheel.moments (key_of which task) (near next) }) (is_far next || far)
kept_changed timetable wheel far is which task series next within its = record {
  few = λ other. subst (λ n. n ≤ 200) (sym (as_many timetable which task series other)) (is.few other);
  keys = length-set wheel.moments (key_of which task) (near next) ∙ is.keys;
  right = λ key small. by_key key small (cases_eq key (key_of which task));
}
  where
    low : task < 200
    low = let few = is.few which in omega arith

    by_key : (key : ℕ) → key < 400 → (key ≡ key_of which task) ⊎ (key ≢ key_of which task) →
        IsRight (FiresOf (changed timetable task which series) key) wheel.elapsed (is_far next || far) (get_or (set wheel.moments (key_of which task) (near next)) key None)
    by_key key small (inl same) =
        subst (λ k. IsRight (FiresOf (changed timetable task which series) k) wheel.elapsed (is_far next || far) (get_or (set wheel.moments (key_of which task) (near next)) k None)) (sym same)
        (subst (λ m. IsRight (FiresOf (changed timetable task which series) (key_of which task)) wheel.elapsed (is_far next || far) m)
        (sym (get_or-set_same wheel.moments (key_of which task) (near next) None (subst (λ n. key_of which task < n) (sym is.keys) (key_small which task low))))
        (subst (λ s. IsRight (λ t. IsTrue (fires_if s t)) wheel.elapsed (is_far next || far) (near next)) (sym (this_series timetable which task series within low))
        (near_is_right (λ t. IsTrue (fires_if series t)) wheel.elapsed far next its)))
    by_key key small (inr differs) =
        subst (λ m. IsRight (FiresOf (changed timetable task which series) key) wheel.elapsed (is_far next || far) m)
        (sym (get_or-set_other wheel.moments (key_of which task) key (near next) None differs))
        (subst (λ s. IsRight (λ t. IsTrue (fires_if s t)) wheel.elapsed (is_far next || far) (moment_of wheel key)) (sym (other_series timetable which task series key differs))
        (more_far (FiresOf timetable key) wheel.elapsed (is_far next) far (moment_of wheel key) (is.right key small)))

-- WHERE THERE IS A WHEEL

pub few_where : (timetable : Timetable) (wheel : Option Moments) (far : Bool) (which : Which) (task : ℕ) → IsKeptIf timetable wheel far →
    task < length (of_kind which timetable) → IfSome wheel (λ (w : Moments). (task < 200) × (length w.moments ≡ 400))
few_where timetable None far which task is there = tt
few_where timetable (Some wheel) far which task is there = let few = is.few which in (omega (arith, few, there), is.keys)

pub kept_if_changed : (timetable : Timetable) (old : Option Moments) (was_far : Bool) (new : Option Moments) (far : Bool) (which : Which) (task : ℕ) (series : Option Series) →
    IsKeptIf timetable old was_far → task < length (of_kind which timetable) → Notes task which series old was_far new far →
    IsKeptIf (changed timetable task which series) new far
kept_if_changed timetable None was_far None far which task series is there notes = tt
kept_if_changed timetable None was_far (Some new) far which task series is there notes = absurd notes
kept_if_changed timetable (Some old) was_far None far which task series is there notes = absurd notes
kept_if_changed timetable (Some old) was_far (Some new) far which task series is there notes =
    let kept = kept_changed timetable old was_far is which task series notes.next there notes.its in
    subst (λ (far : Bool). IsKept (changed timetable task which series) new far) (sym notes.noted)
    (subst (λ (w : Moments). IsKept (changed timetable task which series) w (is_far notes.next || was_far)) (sym notes.kept) kept)

pub moving_at_first : (timetable : Timetable) (wheel : Moments) (far : Bool) (after : ℕ) → IsKept timetable wheel far → wheel.elapsed ≤ after → IsMoving timetable wheel far after
moving_at_first timetable wheel far after is forward = record {
  few = is.few;
  keys = is.keys;
  forward = forward;
  right = λ key small. on_the_way (FiresOf timetable key) wheel.elapsed after far (moment_of wheel key) forward (is.right key small);
}

-- a key's moment came, and its next one is kept
pub moving_on : (timetable : Timetable) (wheel polled new : Moments) (far : Bool) (after key : ℕ) (next : Option ℕ) → IsMoving timetable wheel far after →
    polled.moments ≡ set wheel.moments key None → polled.elapsed ≤ after → key < length wheel.moments → NextOf (FiresOf timetable key) after next → new ≡ record polled { moments = set polled.moments key (near next) } →
    IsMoving timetable new (is_far next || far) after
moving_on timetable wheel polled new far after key next is taken near_ within its becomes =
    let moments : new.moments ≡ set wheel.moments key (near next) =
    ap (λ (w : Moments). w.moments) becomes ∙ (ap (λ m. set m key (near next)) taken ∙ set-set wheel.moments key None (near next)) in
    record {
      few = is.few;
      keys = ap length moments ∙ (length-set wheel.moments key (near next) ∙ is.keys);
      forward = subst (λ n. n ≤ after) (sym (ap (λ (w : Moments). w.elapsed) becomes)) near_;
      right = λ other small. subst (λ m. IsRightOrDue (FiresOf timetable other) after (is_far next || far) (get_or m other None)) (sym moments) (by_key other small (cases_eq other key));
    }
  where
    by_key : (other : ℕ) → other < 400 → (other ≡ key) ⊎ (other ≢ key) → IsRightOrDue (FiresOf timetable other) after (is_far next || far) (get_or (set wheel.moments key (near next)) other None)
    by_key other small (inl same) =
        subst (λ k. IsRightOrDue (FiresOf timetable k) after (is_far next || far) (get_or (set wheel.moments key (near next)) k None)) (sym same)
        (subst (IsRightOrDue (FiresOf timetable key) after (is_far next || far)) (sym (get_or-set_same wheel.moments key (near next) None within))
        (right_or_due (FiresOf timetable key) after (is_far next || far) (near next) (near_is_right (FiresOf timetable key) after far next its)))
    by_key other small (inr differs) =
        subst (IsRightOrDue (FiresOf timetable other) after (is_far next || far)) (sym (get_or-set_other wheel.moments key other (near next) None differs))
        (more_far_or_due (FiresOf timetable other) after (is_far next) far (moment_of wheel other) (is.right other small))

-- how many keys' moments aren't behind the moment
abbrev pub due_count : ℕ → List (Option ℕ) → ℕ
due_count after moments = count_by (is_due after) moments

near_later : (Fires : ℕ → Type 0) (after : ℕ) (next : Option ℕ) → NextOf Fires after next → is_due after (near next) ≡ false
near_later Fires after None none = refl
near_later Fires after (Some t) is = by_test (nat_lt t (2 ^ 42))
  where
    by_test : (b : Bool) → is_due after (cond b (Some t) None) ≡ false
    by_test true = lt-leb t after is.later
    by_test false = refl

-- there are fewer then
pub fewer_due : (timetable : Timetable) (wheel polled new : Moments) (after key : ℕ) (next : Option ℕ) →
    IsDueBy wheel after key → polled.moments ≡ set wheel.moments key None → NextOf (FiresOf timetable key) after next → new ≡ record polled { moments = set polled.moments key (near next) } →
    due_count after new.moments < due_count after wheel.moments
fewer_due timetable wheel polled new after key next due_ taken its becomes =
    let moments : new.moments ≡ set wheel.moments key (near next) =
    ap (λ (w : Moments). w.moments) becomes ∙ (ap (λ m. set m key (near next)) taken ∙ set-set wheel.moments key None (near next)) in
    let was : is_due after (get_or wheel.moments key None) ≡ true = ap (is_due after) due_.its ∙ le-leb due_.moment after due_.due in
    let now : is_due after (near next) ≡ false = near_later (FiresOf timetable key) after next its in
    let counted = sum_by-set (λ o. cond (is_due after o) 1 0) wheel.moments key (near next) None (moment_within wheel.moments key due_.moment due_.its) in
    subst (λ m. due_count after m < due_count after wheel.moments) (sym moments) (omega (arith, rw (was, now) at counted))

-- THE NEXT MOMENT OF ALL

due_by_key : (timetable : Timetable) (key t : ℕ) → key < 400 → FiresOf timetable key t → IsDue timetable t
due_by_key timetable key t small fires =
    let is = key_is key small in
    record {
      task = is.1;
      which = is.0;
      fires = subst (λ s. IsTrue (fires_if s t)) (ap (series_of timetable) is.3 ∙ series_of_key timetable is.0 is.1 is.2) fires;
    }

task_small : (timetable : Timetable) → ((which : Which) → length (of_kind which timetable) ≤ 200) → (t : ℕ) (is : IsDue timetable t) → is.task < 200
task_small timetable few t is = elim (cases_lt is.task (length (of_kind is.which timetable))) [
  | inl less ↦ let small = few is.which in omega arith
  | inr past ↦ absurd (false≢true (subst (λ s. IsTrue (fires_if s t)) (get_or_past (of_kind is.which timetable) is.task None past) is.fires))
]

key_fires : (timetable : Timetable) → ((which : Which) → length (of_kind which timetable) ≤ 200) → (t : ℕ) (is : IsDue timetable t) → FiresOf timetable (key_of is.which is.task) t
key_fires timetable few t is = subst (λ s. IsTrue (fires_if s t)) (sym (series_of_key timetable is.which is.task (task_small timetable few t is))) is.fires

module _ (timetable : Timetable) (wheel : Moments) (far : Bool) (after : ℕ) (is : IsKept timetable wheel far) (reached : wheel.elapsed ≡ after) where
  right_at : (key : ℕ) → key < 400 → IsRight (FiresOf timetable key) after far (moment_of wheel key)
  right_at key small = subst (λ n. IsRight (FiresOf timetable key) n far (moment_of wheel key)) reached (is.right key small)

  -- a later moment of a key isn't before its next one, or it is far
  bound : (Fires : ℕ → Type 0) (next : Option ℕ) → IsRight Fires after far next → (u : ℕ) → Fires u → after < u → ((t : ℕ) × (next ≡ Some t) × (t ≤ u)) ⊎ (IsTrue far × (2 ^ 42 ≤ u))
  bound Fires None right u fires later = inr (right u fires later)
  bound Fires (Some t) right u fires later = inl (t, refl, right.least u fires later)

  due_bound : (u : ℕ) → IsDue timetable u → after < u → ((key : ℕ) × (t : ℕ) × (moment_of wheel key ≡ Some t) × (t ≤ u)) ⊎ (IsTrue far × (2 ^ 42 ≤ u))
  due_bound u due_ later =
      let key : ℕ = key_of due_.which due_.task in
      let small = task_small timetable is.few u due_ in
      elim (bound (FiresOf timetable key) (moment_of wheel key) (right_at key (key_small due_.which due_.task small)) u (key_fires timetable is.few u due_) later) [
        | inl found ↦ inl (key, found.0, found.1, found.2)
        | inr beyond ↦ inr beyond
      ]

  pub soonest_is : (t : ℕ) → t < 2 ^ 42 → IsLeastMoment wheel t → IsNext (IsDue timetable) after t
  soonest_is t near_ least =
      let within : least.key < 400 = subst (λ n. least.key < n) is.keys (moment_within wheel.moments least.key t least.its) in
      let next = subst (IsRight (FiresOf timetable least.key) after far) least.its (right_at least.key within) in
      record {
        fires = due_by_key timetable least.key t within next.fires;
        later = next.later;
        least = λ u due_ later. elim (due_bound u due_ later) [
          | inl found ↦ let h = least.least found.0 found.1 found.2 in let k = found.3 in omega arith
          | inr beyond ↦ let h = beyond.1 in omega arith
        ];
      }

  pub none_soon : far ≡ false → EachMoment wheel (λ _. ⊥) → NoneIsNext (IsDue timetable) after
  none_soon never none u due_ later = elim (due_bound u due_ later) [
    | inl found ↦ none found.0 found.1 found.2
    | inr beyond ↦ false≢true (sym never ∙ beyond.0)
  ]
