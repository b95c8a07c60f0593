use Rattle.std.proofs.Common.{ap}
use Rattle.pearl_kernel.specs.Kept.{Kept}
use Rattle.pearl_kernel.proofs.Touching.{leaves-stirred}
use Rattle.pearl_kernel.proofs.state.State.trigger.Goals as goal

pub returns-clause-leaves : goal.returns-clause-leaves
returns-clause-leaves c = λ list.
    rw c.goes_on.ensures (rw c.touched_if.ensures
    (leaves-stirred c.args.own c.args.self.now c.interrupted-changed.new.self list c.interrupted-changed.result
    (ap (λ (x : Kept). x.offers) c.interrupted-changed.ensures.occurs) c.interrupted-changed.ensures.stirs))
