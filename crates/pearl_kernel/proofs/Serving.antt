-- The plans of the tasks that are due serve: of no other task anything changes, and what is kept of the tasks stays so.
use Rattle.std.proofs.Common.{◌≡◌, ◌≢◌, ℕ, zero, suc, ◌+◌, ◌<◌, ◌≤◌, inl, inr, Bool, List, [], Some, length, slice_get}
use Rattle.std.proofs.Common.{refl, sym, ap, subst, ◌∙◌, length-set, arith}
use Rattle.std.proofs.lemmas.Bool.{cases_lt}
use Rattle.std.proofs.lemmas.List.{length-map}
use Rattle.pearl_timer.specs.declared.timer.Which.{Which}
use Rattle.pearl_timer.specs.declared.timer.Which.TheVariants.{Continuation, Activation}
use Rattle.pearl_timer.specs.Next.{IsFirstFrom, NoneFrom}
use Rattle.pearl_timer.specs.Timetable.{IsTaskDue, of_kind}
use Rattle.pearl_timer.proofs.Offered.{task_is_there}
use Rattle.pearl_rules.specs.declared.row.TaskRow.{TaskRow}
use Rattle.pearl_rules.specs.Core.{Core, row_of}
use Rattle.pearl_rules.specs.Plans.{each_task, served, millisecond}
use Rattle.pearl_kernel.specs.declared.changes.Changed.TheVariants.{Nothing}
use Rattle.pearl_kernel.specs.Kept.{Kept}
use Rattle.pearl_kernel.specs.Changes.{ChangesOnly}
use Rattle.pearl_kernel.specs.Timing.{series_of_plan, series_of_activation, timetable}
use Rattle.pearl_kernel.specs.Eligible.{possible, entry, entry_if, Stand, is_told, able_at, noted, IsStandOf}
use Rattle.pearl_kernel.proofs.Places.{by_task, get-same, get-other}
use Rattle.pearl_kernel.proofs.OneTask as one
use Rattle.pearl_kernel.proofs.Planned.{keeps-served, keeps-all_served, keeps-millisecond, turn-room}
use Rattle.pearl_kernel.proofs.Entries.{unchanged, possible-same, entry-same}
use Rattle.pearl_kernel.proofs.Changing.{closed}
use Rattle.pearl_kernel.proofs.Touching.{IsRowOf, row_closed}
use Rattle.pearl_kernel.proofs.Passing.{served-silent}

-- WHO IS DUE

-- a task that is due is there
pub due-there : (rows : List TaskRow) (t moment : ℕ) → IsTaskDue (timetable rows) moment t → t < length rows
due-there rows t moment = task_is_there (timetable rows) (length rows) moment t few
  where
    few : (which : Which) → length (of_kind which (timetable rows)) ≤ length rows
    few Continuation = omega (arith, length-map rows (λ row. series_of_plan row.continuation))
    few Activation = omega (arith, length-map rows (λ row. series_of_activation row.activation))

-- where no task from one on is due, the plans of those before it are all that serve
pub served-up : (start core : Core) (from n : ℕ) → core ≡ each_task served from start → from ≤ n →
    ((t : ℕ) → from ≤ t → t < n → IsTaskDue (timetable core.tasks) core.moment t → ⊥) → core ≡ each_task served n start
served-up start core from zero is up silent = let none : from ≡ zero = omega arith in is ∙ ap (λ n. each_task served n start) none
served-up start core from (suc n) is up silent = elim (cases_lt n from) [
  | inl end ↦ let all : from ≡ suc n = omega arith in is ∙ ap (λ n. each_task served n start) all
  | inr more ↦
      sym (served-silent core n (silent n more (omega arith)))
      ∙ ap (λ c. served c n) (served-up start core from n is more (λ t low before. silent t low (omega arith)))
]

-- ONE TASK'S PLANS

others-kept : (core : Core) (u t : ℕ) → t ≢ u → row_of (served core u) t ≡ row_of core t
others-kept core u t other = one.served-kept (IsRowOf core t) u (row_closed core u t other) core refl

nothing-else : (core : Core) (u : ℕ) → ChangesOnly Nothing core (served core u)
nothing-else core u = one.served-kept (ChangesOnly Nothing core) u (closed Nothing core u) core (unchanged core)

pub stand-served : (k new : Kept) (s : Stand) (u : ℕ) → u < length k.core.tasks → new ≡ record k { core = served k.core u } →
    IsStandOf k s → IsStandOf new (noted new u (able_at s u) s)
stand-served k new s u there same is = subst (λ (x : Kept). IsStandOf x (noted x u (able_at s u) s)) (sym same) (record {
  size = length-set s.able u able ∙ is.size ∙ sym size;
  able = λ t within. by_task t u _ (λ e. able_here t e) (λ other.
      get-other s.able u t able other ∙ is.able t (subst (λ n. t < n) size within) ∙ ap (λ b. Some b) (sym (same_possible t)));
  ready = record {
    size = length-set s.set u (entry_if after u able) ∙ is.ready.size ∙ sym size;
    each = λ t within. by_task t u _ (λ e. set_here t e) (λ other.
        get-other s.set u t (entry_if after u able) other ∙ is.ready.each t (subst (λ n. t < n) size within)
        ∙ ap (λ e. Some e) (sym (entry-same k after t (others-kept k.core u t other) (same_possible t))));
  };
})
  where
    after : Kept
    after = record k { core = served k.core u }

    able : Bool
    able = able_at s u

    size : length (served k.core u).tasks ≡ length k.core.tasks
    size = (keeps-served k.core u).size

    same_possible : (t : ℕ) → possible after t ≡ possible k t
    same_possible t = possible-same k after t refl (nothing-else k.core u)

    able_is : able ≡ possible after u
    able_is = ap is_told (is.able u there) ∙ sym (same_possible u)

    able_here : (t : ℕ) → t ≡ u → slice_get (noted after u able s).able t ≡ Some (possible after t)
    able_here t e = subst (λ v. slice_get (noted after u able s).able v ≡ Some (possible after v)) (sym e)
        (get-same s.able u able (subst (λ n. u < n) (sym is.size) there) ∙ ap (λ b. Some b) able_is)

    set_here : (t : ℕ) → t ≡ u → slice_get (noted after u able s).set t ≡ Some (entry after t)
    set_here t e = subst (λ v. slice_get (noted after u able s).set v ≡ Some (entry after v)) (sym e)
        (get-same s.set u (entry_if after u able) (subst (λ n. u < n) (sym is.ready.size) there)
        ∙ ap (λ b. Some (entry_if after u b)) able_is)

-- THE NEXT TASK

-- the plans of the tasks before `from` have served
module _ (first k : Kept) (from : ℕ) (same : k ≡ record first { core = each_task served from first.core }) (low : from ≤ length first.core.tasks) where
  core-is : k.core ≡ each_task served from first.core
  core-is = ap (λ (x : Kept). x.core) same

  size-is : length k.core.tasks ≡ length first.core.tasks
  size-is = ap (λ (core : Core). length core.tasks) core-is ∙ (keeps-all_served from first.core).size

  module _ (t : ℕ) (next : IsFirstFrom (IsTaskDue (timetable k.core.tasks) k.core.moment) from t) where
    pub next-there : t < length k.core.tasks
    next-there = due-there k.core.tasks t k.core.moment next.holds

    pub next-low : t < length first.core.tasks
    next-low = subst (λ n. t < n) size-is next-there

    next-up : k.core ≡ each_task served t first.core
    next-up = served-up first.core k.core from t core-is next.from next.first

    pub next-room : length first.core.tasks ≤ 200 → first.core.told ≡ [] → length k.core.told < 200
    next-room few none = subst (λ (core : Core). length core.told < 200) (sym next-up)
        (turn-room t (length first.core.tasks) first.core (each_task served t first.core) (keeps-all_served t first.core) next-low refl few none)

    -- they have served up to this one then
    pub next-served : (new : Kept) → new ≡ record k { core = served k.core t } → new ≡ record first { core = each_task served (t + 1) first.core }
    next-served new is =
        is ∙ ap (λ (x : Kept). record x { core = served k.core t }) same
        ∙ ap (λ (core : Core). record first { core = served core t }) next-up
        ∙ ap (λ n. record first { core = each_task served n first.core }) (let e : suc t ≡ t + 1 = omega arith in e)

  -- those of all tasks have served
  pub all-served : NoneFrom (IsTaskDue (timetable k.core.tasks) k.core.moment) from → k ≡ record first { core = each_task served (length first.core.tasks) first.core }
  all-served none =
      ap (λ (x : Kept). record x { core = k.core }) same
      ∙ ap (λ (core : Core). record first { core = core }) (served-up first.core k.core from (length first.core.tasks) core-is low (λ t up before. none t up))

-- THE MILLISECOND

pub millisecond-is : (k mid new : Kept) (now moment : ℕ) → now ≡ k.core.moment → moment ≡ now + 1 → mid ≡ record k { core = record k.core { moment = moment } } →
    new ≡ record mid { core = each_task served (length mid.core.tasks) mid.core } → new ≡ record k { core = millisecond k.core }
millisecond-is k mid new now moment is later at serves =
    serves ∙ ap (λ (x : Kept). record x { core = each_task served (length x.core.tasks) x.core })
    (at ∙ ap (λ m. record k { core = record k.core { moment = m } }) (later ∙ ap (λ n. n + 1) is))

-- there are as many tasks after it
pub few-still : (core : Core) → length core.tasks ≤ 200 → length (millisecond core).tasks ≤ 200
few-still core few = subst (λ n. n ≤ 200) (sym (keeps-millisecond core).size) few
