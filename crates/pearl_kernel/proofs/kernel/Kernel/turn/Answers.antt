use Rattle.std.proofs.Common.{◌≡◌, Some, sym, subst}
use Rattle.pearl_rules.specs.Pick.{can_turn}
use Rattle.pearl_kernel.specs.Kept.{Kept, offered}
use Rattle.pearl_kernel.specs.Whole.{IsWhole}
use Rattle.pearl_kernel.proofs.Acting.{kept-last}
use Rattle.pearl_kernel.proofs.Lawful.{lawful-last}
use Rattle.pearl_kernel.proofs.Picking.{turn-there}
use Rattle.pearl_kernel.proofs.kernel.Kernel.turn.Goals as goal

pub invariant_of-self : goal.invariant_of-self
invariant_of-self c =
    let s = c.self.inside in
    let of = c.self.invariant.lawful in
    subst (λ (k : Kept). IsWhole k s.standing) (sym c.set_last.ensures)
    (kept-last of.0 s.state s.standing (Some c.args.task) (lawful-last of.0 s.state (Some c.args.task)
    (turn-there s.state c.args.task c.can_turn.result (subst (λ (k : Kept). c.can_turn.result ≡ can_turn k.core (offered k) c.args.task) (sym c.self.view_is) c.can_turn.ensures)
    c.if-can_turn.true) of.1) c.self.invariant)
