use Rattle.std.proofs.Common.{ap}
use Rattle.pearl_kernel.specs.Kept.{Kept}
use Rattle.pearl_kernel.proofs.Touching.{leaves-broken_off}
use Rattle.pearl_kernel.proofs.state.State.get.Goals as goal

pub returns-in-Bad-clause-leaves : goal.returns-in-Bad-clause-leaves
returns-in-Bad-clause-leaves c = λ list.
    let used = c.use_up-changed in
    rw c.touched_if.ensures
    (leaves-broken_off c.args.own c.args.self.now used.new.self c.finish.new.self list used.result _
    (ap (λ (x : Kept). x.offers) used.ensures.used) used.ensures.stirs c.finish.ensures)
