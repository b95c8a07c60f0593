use Rattle.std.proofs.Common.{◌≡◌, ℕ, ◌≤◌, max, List, Option, length, arith}
use Rattle.pearl_rules.specs.declared.series.Series.{Series}
use Rattle.pearl_timer.specs.declared.timer.Which.{Which}
use Rattle.pearl_timer.specs.declared.timer.Which.TheVariants.{Continuation, Activation}
use Rattle.pearl_timer.specs.Timetable.{of_kind}
use Rattle.pearl_timer.specs.Kept.{both}
use Rattle.pearl_timer.proofs.TaskLaws.{none_due_at_all}
use Rattle.pearl_timer.proofs.timer.first_due.Goals as goal

within : (continuations activations : List (Option Series)) (tasks : ℕ) → tasks ≡ max (length continuations) (length activations) →
    (which : Which) → length (of_kind which (both continuations activations)) ≤ tasks
within continuations activations tasks is Continuation = omega arith
within continuations activations tasks is Activation = omega arith

pub returns : goal.returns
returns c =
    none_due_at_all (both c.args.continuations.now c.args.activations.now) c.max-tasks.result c.args.moment c.args.from
    (within c.args.continuations.now c.args.activations.now c.max-tasks.result c.max-tasks.ensures)
    (λ other low before. c.loop-task.invariant other low (let end = c.loop-task-test.false in omega arith))
