use Rattle.std.proofs.Common.{◌∙◌}
use Rattle.pearl_rules.specs.declared.event.Event.TheVariants.{Stop}
use Rattle.pearl_kernel.proofs.Touching.{leaves-ended, leaves-dormant}
use Rattle.pearl_kernel.proofs.state.State.stop.Goals as goal
use Rattle.pearl_kernel.proofs.state.State.stop.Goals.{in-Dormant, in-Active}

pub returns-then-task-own-clause-leaves : goal.returns-then-task-own-clause-leaves
returns-then-task-own-clause-leaves c = λ list.
    let k = c.args.self.now in
    let new = c.match-mode.self in
    elim c.match-mode.branch [
      | in-Dormant w ↦ leaves-dormant c.args.own c.args.task k new c.requires.there w.self-is
      | in-Active w ↦ leaves-ended c.args.own c.args.task k new (Stop c.args.task) c.requires.there (w.self-is ∙ w.finish.ensures)
    ]

pub returns-else-task-own-clause-leaves : goal.returns-else-task-own-clause-leaves
returns-else-task-own-clause-leaves c = λ list.
    let k = c.args.self.now in
    let new = c.match-mode.self in
    elim c.match-mode.branch [
      | in-Dormant w ↦ leaves-dormant c.args.own c.args.task k new c.requires.there w.self-is
      | in-Active w ↦ leaves-ended c.args.own c.args.task k new (Stop c.args.task) c.requires.there (w.self-is ∙ w.finish.ensures)
    ]
