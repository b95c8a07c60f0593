-- What a timer's wheel keeps of its series: the next moment of each, below 2 ^ 42. No public clause cites this module.
use Rattle.std.specs.Prelude.{◌≡◌, ℕ, ◌+◌, ◌-◌, ◌^◌, ◌<◌, ◌≤◌, ◌⊎◌, ◌||◌, Bool, true, false, List, Option, Some, None, IsTrue, MatchOption, length, cond, nat_lt, nat_le, slice_index_or, slice_set}
use Rattle.pearl_rules.specs.declared.series.Series.{Series}
use Rattle.pearl_timer.specs.declared.timer.Which.{Which}
use Rattle.pearl_timer.specs.declared.timer.Which.TheVariants.{Continuation, Activation}
use Rattle.pearl_rules.specs.Series.{fires_if}
use Rattle.pearl_timer.specs.Next.{IsNext, NoneIsNext}
use Rattle.pearl_timer.specs.Timetable.{Timetable, of_kind}
use Rattle.pearl_timer.specs.Wheel.{Moments, moment_of}

-- these series of both kinds
abbrev pub both : List (Option Series) → List (Option Series) → Timetable
both continuations activations = record { continuations = continuations; activations = activations }

-- the key of a task's series of one kind
abbrev pub key_of : Which → ℕ → ℕ
key_of Continuation task = task
key_of Activation task = task + 200

-- the series of a key
abbrev pub series_of : Timetable → ℕ → Option Series
series_of timetable key =
    cond (nat_lt key 200) (slice_index_or timetable.continuations key None) (slice_index_or timetable.activations (key - 200) None)

-- the series of a key fires at t
abbrev pub FiresOf : Timetable → ℕ → ℕ → Type 0
FiresOf timetable key t = IsTrue (fires_if (series_of timetable key) t)

-- the part of a next moment that a wheel keeps
abbrev pub near : Option ℕ → Option ℕ
near None = None
near (Some t) = cond (nat_lt t (2 ^ 42)) (Some t) None

-- whether a next moment is beyond it
abbrev pub is_far : Option ℕ → Bool
is_far None = false
is_far (Some t) = cond (nat_lt t (2 ^ 42)) false true

-- at no later moment, but perhaps from 2 ^ 42 on, where some series may fire that late
abbrev pub OnlyFar : (ℕ → Type 0) → ℕ → Bool → Type 0
OnlyFar Fires after far = (u : ℕ) → Fires u → after < u → IsTrue far × (2 ^ 42 ≤ u)

-- the moment of a key is the next one at which its series fires
abbrev pub IsRight : (ℕ → Type 0) → ℕ → Bool → Option ℕ → Type 0
IsRight Fires after far next = MatchOption next (OnlyFar Fires after far) (IsNext Fires after)

-- or it isn't behind `after`
abbrev pub IsRightOrDue : (ℕ → Type 0) → ℕ → Bool → Option ℕ → Type 0
IsRightOrDue Fires after far next = MatchOption next (OnlyFar Fires after far) (λ t. (t ≤ after) ⊎ IsNext Fires after t)

-- each key's moment is the next one
pub record IsKept (timetable : Timetable) (wheel : Moments) (far : Bool) : Type 0 where
  pub few : (which : Which) → length (of_kind which timetable) ≤ 200
  pub keys : length wheel.moments ≡ 400
  pub right : (key : ℕ) → key < 400 → IsRight (FiresOf timetable key) wheel.elapsed far (moment_of wheel key)

-- the wheel has the next moment of this series of a task, or none
pub record NotesNext (task : ℕ) (which : Which) (series : Option Series) (old : Moments) (was_far : Bool) (new : Moments) (far : Bool) : Type 0 where
  pub next : Option ℕ
  pub its : MatchOption next (NoneIsNext (λ t. IsTrue (fires_if series t)) old.elapsed) (IsNext (λ t. IsTrue (fires_if series t)) old.elapsed)
  pub kept : new ≡ record old { moments = slice_set old.moments (key_of which task) (near next) }
  pub noted : far ≡ (is_far next || was_far)

-- the same where there is a wheel; without one nothing is kept beside the series
abbrev pub IsKeptIf : Timetable → Option Moments → Bool → Type 0
IsKeptIf timetable None far = Unit {0}
IsKeptIf timetable (Some wheel) far = IsKept timetable wheel far

-- the wheel, where there is one, has the next moment of this series of a task, or none
abbrev pub Notes : ℕ → Which → Option Series → (old : Option Moments) → (was_far : Bool) → (new : Option Moments) → (far : Bool) → Type 0
Notes task which series None was_far None far = Unit {0}
Notes task which series None was_far (Some new) far = ⊥
Notes task which series (Some old) was_far None far = ⊥
Notes task which series (Some old) was_far (Some new) far = NotesNext task which series old was_far new far

-- the same on the way to a moment
pub record IsMoving (timetable : Timetable) (wheel : Moments) (far : Bool) (after : ℕ) : Type 0 where
  pub few : (which : Which) → length (of_kind which timetable) ≤ 200
  pub keys : length wheel.moments ≡ 400
  pub forward : wheel.elapsed ≤ after
  pub right : (key : ℕ) → key < 400 → IsRightOrDue (FiresOf timetable key) after far (moment_of wheel key)

-- the moment of a key of this task
pub record HasKeyAt (wheel : Moments) (when task : ℕ) : Type 0 where
  pub small : task < 200
  pub which : Which
  pub its : moment_of wheel (key_of which task) ≡ Some when

-- whether a moment isn't behind another
abbrev pub is_due : ℕ → Option ℕ → Bool
is_due after None = false
is_due after (Some t) = nat_le t after
