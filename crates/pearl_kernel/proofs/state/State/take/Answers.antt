use Rattle.std.proofs.Common.{Some, ap}
use Rattle.pearl_kernel.specs.declared.changes.Changed.TheVariants.{Device}
use Rattle.pearl_kernel.specs.Kept.{Kept}
use Rattle.pearl_kernel.proofs.Changing.{stirs-value}
use Rattle.pearl_kernel.proofs.Touching.{leaves-stirred}
use Rattle.pearl_kernel.proofs.state.State.take.Goals as goal

pub returns-clause-leaves : goal.returns-clause-leaves
returns-clause-leaves c = λ list.
    let k = c.args.self.now in
    let new = c.next_value.new.self in
    rw c.hears.ensures (leaves-stirred c.args.own k new list (Some (Device c.args.device))
    (ap (λ (x : Kept). x.offers) c.next_value.ensures.waiting)
    (stirs-value k new c.args.device c.next_value.ensures.waiting))
