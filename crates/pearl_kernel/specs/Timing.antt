-- When the plans of a kernel fire, and how far in time it can be.
use Rattle.std.specs.Prelude.{ℕ, ◌+◌, ◌^◌, ◌<◌, ◌≤◌, List, Option, Some, None, IfSome, map}
use Rattle.std.specs.List.{AllByRecursion}
use Rattle.pearl_value.specs.WellFormed.{FitsSpan}
use Rattle.pearl_rules.specs.declared.series.Series.{Series}
use Rattle.pearl_timer.specs.Timetable.{Timetable, IsDue}
use Rattle.pearl_rules.specs.declared.action.Start.{Start}
use Rattle.pearl_rules.specs.declared.action.Start.TheVariants.{Free, At, After, When, WhenAfter}
use Rattle.pearl_rules.specs.declared.action.Repeat.{Repeat}
use Rattle.pearl_rules.specs.declared.action.Repeat.TheVariants.{Once, All, Until, During}
use Rattle.pearl_rules.specs.declared.row.End.{End}
use Rattle.pearl_rules.specs.declared.row.End.TheVariants as end
use Rattle.pearl_rules.specs.declared.row.Plan.{Plan}
use Rattle.pearl_rules.specs.declared.row.Activation.{Activation}
use Rattle.pearl_rules.specs.declared.row.TaskRow.{TaskRow}
use Rattle.pearl_rules.specs.Core.{Core}

-- WHEN PLANS FIRE

abbrev pub series_of_plan : Option Plan → Option Series
series_of_plan None = None
series_of_plan (Some plan) = plan.series

abbrev pub series_of_activation : Option Activation → Option Series
series_of_activation None = None
series_of_activation (Some activation) = activation.plan.series

-- the series of each task's plans
abbrev pub timetable : List TaskRow → Timetable
timetable rows = record {
  continuations = map (λ row. series_of_plan row.continuation) rows;
  activations = map (λ row. series_of_activation row.activation) rows;
}

-- no plan fires at the next n moments
abbrev pub IsQuiet : Core → ℕ → Type 0
IsQuiet core n = (u : ℕ) → core.moment < u → u ≤ core.moment + n → IsDue (timetable core.tasks) u → ⊥

-- HOW FAR

abbrev pub IsTimelyStart : Start → Type 0
IsTimelyStart Free = Unit {0}
IsTimelyStart (At time) = Unit {0}
IsTimelyStart (After time) = FitsSpan time
IsTimelyStart (When interrupt) = Unit {0}
IsTimelyStart (WhenAfter interrupt time) = FitsSpan time

abbrev pub IsTimelyRepeat : Repeat → Type 0
IsTimelyRepeat Once = Unit {0}
IsTimelyRepeat (All period) = FitsSpan period
IsTimelyRepeat (Until period time) = FitsSpan period
IsTimelyRepeat (During period time) = FitsSpan period × FitsSpan time

abbrev pub IsTimelyEnd : End → Type 0
IsTimelyEnd end.Never = Unit {0}
IsTimelyEnd (end.Until time) = Unit {0}
IsTimelyEnd (end.During time) = time ≤ 2 ^ 40

-- its lengths of time are at most 2^40 milliseconds
abbrev pub IsTimelyPlan : Plan → Type 0
IsTimelyPlan plan = (plan.after ≤ 2 ^ 40) × IsTimelyEnd plan.end

abbrev pub IsTimelyRow : TaskRow → Type 0
IsTimelyRow row = IfSome row.continuation IsTimelyPlan × IfSome row.activation (λ activation. IsTimelyPlan activation.plan)

-- no moment that its plans come to is 2^64 or more
pub record IsTimely (core : Core) : Type 0 where
  pub moment : core.moment ≤ 2 ^ 40
  pub clock : core.clock < 86400000
  pub plans : AllByRecursion IsTimelyRow core.tasks
