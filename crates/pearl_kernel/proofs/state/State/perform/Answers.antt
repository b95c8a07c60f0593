use Rattle.std.proofs.Common.{true, false, refl, subst, ◌∙◌}
use Rattle.pearl_exchange.specs.declared.offer.What.{What}
use Rattle.pearl_exchange.specs.Offers.{action_by}
use Rattle.pearl_kernel.specs.Names.{Names}
use Rattle.pearl_kernel.proofs.Touching.{leaves-quiet, leaves-switch, leaves-resumed}
use Rattle.pearl_kernel.proofs.state.State.perform.Goals as goal
use Rattle.pearl_kernel.proofs.state.State.perform.Goals.{in-Write, in-Turn, in-Resume, in-Enable}
use Rattle.pearl_kernel.proofs.state.State.perform.Goals.{in-Disable, in-Put, in-Send}

pub returns-clause-leaves : goal.returns-clause-leaves
returns-clause-leaves c =
    let k = c.args.self.now in
    let own = c.args.own in
    let offer = c.args.offer.now in
    let new = c.match-offer.self in
    rw c.goes_on.ensures (elim c.match-offer.branch [
      | in-Write w ↦ leaves-quiet own k (w.self-is ∙ w.write_slot.ensures) refl refl refl refl refl
      | in-Turn w ↦ leaves-quiet own k w.self-is refl refl refl refl refl
      | in-Resume w ↦ leaves-resumed own k new _ (w.self-is ∙ w.resume.ensures)
      | in-Enable w ↦ leaves-switch own k new _ true
          (subst (λ (what : What). Names k.core (action_by what offer)) w.in-Enable.is c.requires.names)
          (w.self-is ∙ w.set_switch.ensures)
      | in-Disable w ↦ leaves-switch own k new _ false
          (subst (λ (what : What). Names k.core (action_by what offer)) w.in-Disable.is c.requires.names)
          (w.self-is ∙ w.set_switch-in-Disable.ensures)
      | in-Put w ↦ leaves-quiet own k (w.self-is ∙ w.write_out.ensures) refl refl refl refl refl
      | in-Send w ↦ leaves-quiet own k (w.self-is ∙ w.send.ensures) refl refl refl refl refl
    ])
