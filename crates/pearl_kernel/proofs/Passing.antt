-- Milliseconds in which no plan fires change the moment alone.
use Rattle.std.proofs.Common.{◌≡◌, ℕ, zero, suc, ◌+◌, ◌≤◌, List, [], ◌∷◌, Bool, false, Option, Some, None}
use Rattle.std.proofs.Common.{length, map, slice_get, slice_index_or, refl, ap, sym, ◌∙◌, arith, if◌then◌else◌}
use Rattle.pearl_timer.specs.declared.timer.Which.TheVariants as which
use Rattle.pearl_rules.specs.Series.{fires_if}
use Rattle.pearl_timer.specs.Timetable.{IsDue, IsTaskDue}
use Rattle.pearl_timer.proofs.Offered.{none_fires}
use Rattle.pearl_rules.specs.declared.row.Plan.{Plan}
use Rattle.pearl_rules.specs.declared.row.Activation.{Activation}
use Rattle.pearl_rules.specs.declared.row.TaskRow.{TaskRow}
use Rattle.pearl_rules.specs.Core.{Core}
use Rattle.pearl_rules.specs.Plans.{serves_if, continued, started, continuation_in, continuation_of, activation_in, activation_of}
use Rattle.pearl_rules.specs.Plans.{serve_activation_by, serve_activation, each_task, served, millisecond}
use Rattle.pearl_rules.specs.Laws.{passed}
use Rattle.pearl_kernel.specs.Timing.{series_of_plan, series_of_activation, timetable, IsQuiet}

-- THE SERIES OF A TASK'S PLANS

kept-continuation : (rows : List TaskRow) (t : ℕ) →
    slice_index_or (map (λ row. series_of_plan row.continuation) rows) t None
    ≡ series_of_plan (continuation_in (slice_get rows t))
kept-continuation [] t = refl
kept-continuation (row ∷ rows) zero = refl
kept-continuation (row ∷ rows) (suc t) = kept-continuation rows t

kept-activation : (rows : List TaskRow) (t : ℕ) →
    slice_index_or (map (λ row. series_of_activation row.activation) rows) t None
    ≡ series_of_activation (activation_in (slice_get rows t))
kept-activation [] t = refl
kept-activation (row ∷ rows) zero = refl
kept-activation (row ∷ rows) (suc t) = kept-activation rows t

serves-plan : (core : Core) (plan : Option Plan) → serves_if core plan ≡ fires_if (series_of_plan plan) core.moment
serves-plan core None = refl
serves-plan core (Some plan) = refl

-- NO PLAN FIRES AT THIS MOMENT

module _ (core : Core) (t : ℕ) (silent : IsTaskDue (timetable core.tasks) core.moment t → ⊥) where
  silent-continuation : serves_if core (continuation_of core t) ≡ false
  silent-continuation =
      serves-plan core (continuation_of core t)
      ∙ ap (λ series. fires_if series core.moment) (sym (kept-continuation core.tasks t))
      ∙ none_fires (timetable core.tasks) core.moment t silent which.Continuation

  silent-activation : fires_if (series_of_activation (activation_of core t)) core.moment ≡ false
  silent-activation =
      ap (λ series. fires_if series core.moment) (sym (kept-activation core.tasks t))
      ∙ none_fires (timetable core.tasks) core.moment t silent which.Activation

  pub served-silent : served core t ≡ core
  served-silent =
      ap (λ c. serve_activation c t) (ap (λ (b : Bool). if b then continued core t else core) silent-continuation)
      ∙ by_plan (activation_of core t) silent-activation
    where
      by_plan : (activation : Option Activation) → fires_if (series_of_activation activation) core.moment ≡ false →
          serve_activation_by activation core t ≡ core
      by_plan None e = refl
      by_plan (Some activation) e = ap (λ (b : Bool). if b then started core t activation.priority else core) e

each-silent : (core : Core) → (IsDue (timetable core.tasks) core.moment → ⊥) → (n : ℕ) → each_task served n core ≡ core
each-silent core silent zero = refl
each-silent core silent (suc n) =
    ap (λ c. served c n) (each-silent core silent n)
    ∙ served-silent core n (λ is. silent (record { task = n; which = is.which; fires = is.fires }))

-- MILLISECONDS

pub millisecond-silent : (core : Core) → (IsDue (timetable core.tasks) (core.moment + 1) → ⊥) →
    millisecond core ≡ record core { moment = core.moment + 1 }
millisecond-silent core silent =
    let next : Core = record core { moment = core.moment + 1 } in each-silent next silent (length core.tasks)

pub quiet-less : (core : Core) (m n : ℕ) → m ≤ n → IsQuiet core n → IsQuiet core m
quiet-less core m n less quiet = λ u after within due. quiet u after (omega arith) due

-- the moment is later, and nothing else changes
pub passed-quiet : (n : ℕ) (core : Core) → IsQuiet core n → passed n core ≡ record core { moment = core.moment + n }
passed-quiet zero core quiet = ap (λ m. record core { moment = m }) (omega arith)
passed-quiet (suc n) core quiet =
    let then_ : Core = record core { moment = core.moment + n } in
    ap millisecond (passed-quiet n core (quiet-less core n (suc n) (omega arith) quiet))
    ∙ millisecond-silent then_ (quiet (core.moment + n + 1) (omega arith) (omega arith))
    ∙ ap (λ m. record core { moment = m }) (omega arith)
