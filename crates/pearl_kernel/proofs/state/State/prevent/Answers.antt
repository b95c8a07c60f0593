use Rattle.pearl_kernel.proofs.Touching.{leaves-row}
use Rattle.pearl_kernel.proofs.state.State.prevent.Goals as goal

pub returns-clause-leaves : goal.returns-clause-leaves
returns-clause-leaves c = λ list.
    rw c.goes_on.ensures
    (leaves-row c.args.own c.args.self.now c.set_row.new.self c.args.task c.requires _ c.set_row.ensures)
