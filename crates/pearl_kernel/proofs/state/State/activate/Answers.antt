use Rattle.pearl_kernel.proofs.Touching.{leaves-activated}
use Rattle.pearl_kernel.proofs.state.State.activate.Goals as goal

pub returns-clause-leaves : goal.returns-clause-leaves
returns-clause-leaves c = λ list.
    rw c.goes_on.ensures
    (leaves-activated c.args.own c.args.self.now c.begin.new.self c.args.task c.requires.task c.args.start
    c.args.repeat _ c.begin.ensures)
