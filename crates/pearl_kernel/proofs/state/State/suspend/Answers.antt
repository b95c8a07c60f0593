use Rattle.pearl_kernel.proofs.Touching.{leaves-suspended}
use Rattle.pearl_kernel.proofs.state.State.suspend.Goals as goal

pub returns-clause-leaves : goal.returns-clause-leaves
returns-clause-leaves c = λ list.
    rw c.goes_on.ensures
    (leaves-suspended c.args.own c.args.self.now c.mark.new.self c.args.task c.requires c.mark.ensures)
