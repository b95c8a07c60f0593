use Rattle.std.proofs.Common.{sym, subst}
use Rattle.pearl_kernel.specs.declared.changes.Changed.{Changed}
use Rattle.pearl_kernel.specs.Changes.{AreRenewedBut, IsUnmoved}
use Rattle.pearl_kernel.proofs.Renewing.{renewed-less}
use Rattle.pearl_kernel.proofs.standing.Standing.renew_after.Goals as goal

pub returns-in-Device : goal.returns-in-Device
returns-in-Device c =
    let k = c.args.state.now in
    subst (λ (x : Changed). AreRenewedBut k x (IsUnmoved k x) c.args.self.now c.renew_at.new.self) (sym c.in-Device.is)
    c.renew_at.ensures

pub returns-in_default : goal.returns-in_default
returns-in_default c =
    let k = c.args.state.now in
    renewed-less k c.args.changed (λ t. ⊥) (IsUnmoved k c.args.changed) c.args.self.now c.renew_all.new.self
    (λ t no. absurd no) c.renew_all.ensures
