use Rattle.pearl_kernel.proofs.Touching.{leaves-continued}
use Rattle.pearl_kernel.proofs.state.State.continue_task.Goals as goal

pub returns-clause-leaves : goal.returns-clause-leaves
returns-clause-leaves c = λ list.
    rw c.goes_on.ensures
    (leaves-continued c.args.own c.args.self.now c.go_on_from.new.self c.args.task c.requires.task c.args.start
    c.go_on_from.ensures)
