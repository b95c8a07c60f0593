use Rattle.pearl_kernel.proofs.Touching.{leaves-lowered}
use Rattle.pearl_kernel.proofs.state.State.request.Goals as goal

pub returns-clause-leaves : goal.returns-clause-leaves
returns-clause-leaves c =
    rw c.goes_on.ensures
    (leaves-lowered c.args.own c.args.self.now c.lower.new.self c.args.list.now.items c.requires.list c.lower.ensures)
