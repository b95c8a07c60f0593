use Rattle.pearl_kernel.proofs.Touching.{leaves-raised}
use Rattle.pearl_kernel.proofs.state.State.release.Goals as goal

pub returns-then-raise-clause-leaves : goal.returns-then-raise-clause-leaves
returns-then-raise-clause-leaves c =
    rw c.goes_on.ensures
    (leaves-raised c.args.own c.args.self.now c.raise.new.self c.args.list.now.items c.requires.list
    (c.raise.ensures.raised c.if-raise.true))
