-- Which tasks are due: that they are there, and which is the first of them.
use Rattle.std.proofs.Common.{◌≡◌, ℕ, ◌+◌, ◌^◌, ◌<◌, ◌≤◌, inl, inr, Bool, true, false, Option, Some, None, length, refl, sym, ap, subst, arith}
use Rattle.std.specs.Prelude.{IsTrue, MatchOption}
use Rattle.std.proofs.lemmas.Bool.{cases_lt, false≢true}
use Rattle.std.proofs.lemmas.List.{get_or_past}
use Rattle.pearl_timer.specs.declared.timer.Which.{Which}
use Rattle.pearl_rules.specs.Series.{fires_if}
use Rattle.pearl_timer.specs.Next.{IsFirstFrom, NoneFrom}
use Rattle.pearl_timer.specs.Timetable.{Timetable, IsTaskDue, of_kind, due}
use Rattle.pearl_timer.specs.Wheel.{Moments, moment_of}
use Rattle.pearl_timer.specs.Kept.{key_of, FiresOf, HasKeyAt, IsRight, IsKept}
use Rattle.pearl_timer.proofs.KeptLaws.{series_of_key, key_small}

-- what is said of the first number for which something holds, where there is one, and of there being none
abbrev pub FirstOf : (ℕ → Type 0) → ℕ → Option ℕ → Type 0
FirstOf Is start first = MatchOption first (NoneFrom Is start) (IsFirstFrom Is start)

-- what holds for the same numbers holds for the same one first
pub same_first : (Is Was : ℕ → Type 0) (start : ℕ) (first : Option ℕ) → ((n : ℕ) → Is n → Was n) → ((n : ℕ) → Was n → Is n) → FirstOf Is start first → FirstOf Was start first
same_first Is Was start None there back none = λ other from was. none other from (back other was)
same_first Is Was start (Some n) there back is = record {
  from = is.from;
  holds = there n is.holds;
  first = λ other from before was. is.first other from before (back other was);
}

-- a task that is due has a series
pub task_is_there : (timetable : Timetable) (count t task : ℕ) → ((which : Which) → length (of_kind which timetable) ≤ count) → IsTaskDue timetable t task → task < count
task_is_there timetable count t task few is = elim (cases_lt task count) [
  | inl less ↦ less
  | inr past ↦
      let its = few is.which in
      absurd (false≢true (subst (λ s. IsTrue (fires_if s t)) (get_or_past (of_kind is.which timetable) task None (omega arith)) is.fires))
]

never : (b : Bool) → (IsTrue b → ⊥) → b ≡ false
never true fires = absurd (fires refl)
never false fires = refl

-- no series of a task fires that isn't due
pub none_fires : (timetable : Timetable) (t task : ℕ) → (IsTaskDue timetable t task → ⊥) → (which : Which) → due timetable task which t ≡ false
none_fires timetable t task idle which = never (due timetable task which t) (λ fires. idle (record { which = which; fires = fires }))

-- none of the first tasks is due, and no later one is there
pub none_due_at_all : (timetable : Timetable) (count t from : ℕ) → ((which : Which) → length (of_kind which timetable) ≤ count) →
    ((other : ℕ) → from ≤ other → other < count → IsTaskDue timetable t other → ⊥) → NoneFrom (IsTaskDue timetable t) from
none_due_at_all timetable count t from few none other low is = none other low (task_is_there timetable count t other few is) is

-- THE WHEEL'S KEYS

-- a series that fires at the next moment is kept with it
at_once : (Fires : ℕ → Type 0) (elapsed moment : ℕ) (far : Bool) (next : Option ℕ) → IsRight Fires elapsed far next → elapsed + 1 ≡ moment → moment < 2 ^ 42 → Fires moment → next ≡ Some moment
at_once Fires elapsed moment far None right soon small fires = let late = (right moment fires (omega arith)).1 in absurd (omega arith)
at_once Fires elapsed moment far (Some t) right soon small fires = let least = right.least moment fires (omega arith) in let later = right.later in ap Some (omega arith)

-- at the next moment those tasks are due that have a key with it
module _ (timetable : Timetable) (wheel : Moments) (far : Bool) (moment : ℕ) (is : IsKept timetable wheel far) (soon : wheel.elapsed + 1 ≡ moment) (near_ : moment < 2 ^ 42) where
  key_is_due : (task : ℕ) → HasKeyAt wheel moment task → IsTaskDue timetable moment task
  key_is_due task has =
      let next = subst (IsRight (FiresOf timetable (key_of has.which task)) wheel.elapsed far) has.its (is.right (key_of has.which task) (key_small has.which task has.small)) in
      record { which = has.which; fires = subst (λ s. IsTrue (fires_if s moment)) (series_of_key timetable has.which task has.small) next.fires }

  due_has_key : (task : ℕ) → IsTaskDue timetable moment task → HasKeyAt wheel moment task
  due_has_key task due_ =
      let small = task_is_there timetable 200 moment task is.few due_ in
      let key : ℕ = key_of due_.which task in
      let fires : FiresOf timetable key moment = subst (λ s. IsTrue (fires_if s moment)) (sym (series_of_key timetable due_.which task small)) due_.fires in
      record {
        small = small;
        which = due_.which;
        its = at_once (FiresOf timetable key) wheel.elapsed moment far (moment_of wheel key) (is.right key (key_small due_.which task small)) soon near_ fires;
      }

  pub due_by_keys : (start : ℕ) (first : Option ℕ) → FirstOf (HasKeyAt wheel moment) start first → FirstOf (IsTaskDue timetable moment) start first
  due_by_keys start first = same_first (HasKeyAt wheel moment) (IsTaskDue timetable moment) start first key_is_due due_has_key
