-- In a state that fits its spelling no series lasts up to 2^64 - 1, which has none.
use Rattle.std.proofs.Common.{◌≡◌, ℕ, zero, suc, ◌+◌, ◌-◌, ◌%◌, ◌<◌, ◌^◌, Bool, true, false, List, [], ◌∷◌, Option, Some, None, ap, subst, arith}
use Rattle.std.specs.Prelude.{IfSome}
use Rattle.std.specs.List.{AllByRecursion}
use Rattle.pearl_fields.specs.Codec.{arm_at}
use Rattle.pearl_rules.specs.Plans.{no_end}
use Rattle.pearl_records.specs.declared.record.ActivationRecord.{ActivationRecord}
use Rattle.pearl_records.specs.declared.record.PlanRecord.{PlanRecord}
use Rattle.pearl_records.specs.declared.record.SeriesRecord.{SeriesRecord}
use Rattle.pearl_records.specs.declared.record.Standing.{Standing}
use Rattle.pearl_records.specs.declared.record.Standing.TheVariants.{Dormant, Active}
use Rattle.pearl_records.specs.States.{EndsSooner, EndSooner, AllEnd}
use Rattle.pearl_saved.specs.declared.saved.Saved.{Saved}
use Rattle.pearl_snap.specs.declared.states.SavedTask.{SavedTask}
use Rattle.pearl_snap.specs.Lists.{before, maybe_number}
use Rattle.pearl_snap.specs.Plans.{series, maybe_series, plan, continuation, started, activation}
use Rattle.pearl_snap.specs.Tasks.{standing_tag, task_arms, acting, task}
use Rattle.pearl_snap.specs.States.{tasks_of, rows_of, saved}
use Rattle.pearl_snap.proofs.Values.{list_is}

before_is : (m n : ℕ) → before m ≡ Some n → m ≡ suc n
before_is zero n e = absurd cc
before_is (suc m) n e = let same : m ≡ n = cc in ap suc same

maybe_ends : (v : Option ℕ) → maybe_number.fits v → IfSome v (λ n. n < no_end)
unfolding maybe_number
maybe_ends None h = tt
maybe_ends (Some n) h = let next = before_is ((n + 1) % 2 ^ 64) n h.1 in let few = h.0 in omega (arith, next, few)

series_ends : (s : SeriesRecord) → series.fits s → IfSome s.last (λ n. n < no_end)
unfolding series
series_ends s h = maybe_ends s.last h.0.1.1

maybe_series_ends : (s : Option SeriesRecord) → maybe_series.fits s → IfSome s (λ x. IfSome x.last (λ n. n < no_end))
unfolding maybe_series
maybe_series_ends None h = tt
maybe_series_ends (Some s) h = series_ends s h.1.0

plan_ends : (p : PlanRecord) → plan.fits p → EndsSooner p
unfolding plan
plan_ends p h = maybe_series_ends p.series h.0.1.1.1.1

continuation_ends : (p : Option PlanRecord) → continuation.fits p → IfSome p EndsSooner
unfolding continuation
continuation_ends None h = tt
continuation_ends (Some p) h = plan_ends p h.1.0

started_ends : (a : ActivationRecord) → started.fits a → EndsSooner a.plan
unfolding started
started_ends a h = plan_ends a.plan h.0.0

activation_ends : (a : Option ActivationRecord) → activation.fits a → IfSome a (λ start. EndsSooner start.plan)
unfolding activation
activation_ends None h = tt
activation_ends (Some a) h = started_ends a h.1.0

row_ends : (t : SavedTask) (s : Standing) → (arm_at task_arms (standing_tag s)).fits t → EndSooner t.row
unfolding acting
row_ends t Dormant h = (continuation_ends t.row.continuation h.0.0, activation_ends t.row.activation h.0.1)
row_ends t (Active priority false kept) h = (continuation_ends t.row.continuation h.0.1.1.0, activation_ends t.row.activation h.0.1.1.1.0)
row_ends t (Active priority true kept) h = (continuation_ends t.row.continuation h.0.1.1.0, activation_ends t.row.activation h.0.1.1.1.0)

task_ends : (t : SavedTask) → task.fits t → EndSooner t.row
unfolding task
task_ends t h = row_ends t t.row.standing h.1

rows_end : (tasks : List SavedTask) → AllByRecursion (λ t. EndSooner t.row) tasks → AllByRecursion EndSooner (rows_of tasks)
rows_end [] h = tt
rows_end (t ∷ tasks) h = (h.0, rows_end tasks h.1)

pub fits_ends : (s : Saved) → saved.fits s → AllEnd s.core
unfolding saved
fits_ends s h =
    let tasks = tasks_of s.core.tasks s.stacks in
    subst (AllByRecursion EndSooner) (ap (λ t. t.core.tasks) h.1)
    (rows_end tasks (list_is task (λ t. EndSooner t.row) task_ends 0 200 tasks h.0.1.1.1.1.1.1.1.1))
