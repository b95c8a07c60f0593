use Rattle.std.proofs.Common.{◌∙◌, subst, ap₂}
use Rattle.pearl_timer.specs.Timetable.{Timetable, IsTaskDue}
use Rattle.pearl_timer.specs.Kept.{both}
use Rattle.pearl_timer.proofs.TaskLaws.{FirstOf}
use Rattle.pearl_timer.proofs.timer.Timer.next_task.Goals as goal

pub returns-in-None : goal.returns-in-None
returns-in-None c =
    subst (λ (t : Timetable). FirstOf (IsTaskDue t c.args.moment) c.args.from c.first_due.result)
    (ap₂ both c.as_slice-continuations.ensures.value c.as_slice-activations.ensures.value ∙ c.self.view_is) c.first_due.ensures

pub returns-in-Some : goal.returns-in-Some
returns-in-Some c =
    subst (λ (t : Timetable). FirstOf (IsTaskDue t c.args.moment) c.args.from c.first_by.result)
    (ap₂ both c.as_slice-continuations.ensures.value c.as_slice-activations.ensures.value ∙ c.self.view_is) c.first_by.ensures
