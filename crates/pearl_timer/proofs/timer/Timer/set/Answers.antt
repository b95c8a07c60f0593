use Rattle.std.proofs.Common.{◌<◌, Some, subst, sym, length}
use Rattle.pearl_timer.specs.declared.timer.Which.TheVariants.{Continuation, Activation}
use Rattle.pearl_timer.specs.Timetable.{Timetable, of_kind}
use Rattle.pearl_timer.specs.Kept.{both}
use Rattle.pearl_timer.proofs.KeptLaws.{kept_if_changed}
use Rattle.pearl_timer.proofs.timer.Timer.set.Goals as goal

pub invariant_of-self : goal.invariant_of-self
invariant_of-self c =
    let timetable : Timetable = both c.self.inside.continuations.items c.self.inside.activations.items in
    let there : c.args.task < length timetable.continuations = subst (λ (t : Timetable). c.args.task < length (of_kind Continuation t)) (sym c.self.view_is) (subst (λ w. c.args.task < length (of_kind w c.args.self.now)) c.in-Continuation.is c.requires) in
    kept_if_changed timetable c.self.inside.wheel c.self.inside.far c.note.new.wheel c.note.new.far Continuation c.args.task (Some c.args.series) c.self.invariant there c.note.ensures

pub invariant_of-self-in-Activation : goal.invariant_of-self-in-Activation
invariant_of-self-in-Activation c =
    let timetable : Timetable = both c.self.inside.continuations.items c.self.inside.activations.items in
    let there : c.args.task < length timetable.activations = subst (λ (t : Timetable). c.args.task < length (of_kind Activation t)) (sym c.self.view_is) (subst (λ w. c.args.task < length (of_kind w c.args.self.now)) c.in-Activation.is c.requires) in
    kept_if_changed timetable c.self.inside.wheel c.self.inside.far c.note-in-Activation.new.wheel c.note-in-Activation.new.far Activation c.args.task (Some c.args.series) c.self.invariant there c.note-in-Activation.ensures
