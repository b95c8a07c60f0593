use Rattle.std.proofs.Common.{Some}
use Rattle.pearl_kernel.specs.Touched.{reach_of}
use Rattle.pearl_kernel.proofs.Touching.{leaves-last}
use Rattle.pearl_kernel.proofs.state.State.act.Goals as goal

pub returns-clause-leaves : goal.returns-clause-leaves
returns-clause-leaves c =
    leaves-last c.args.own c.args.self.now c.set_last.new.self c.perform.new.self (Some c.args.own)
    (reach_of c.args.offer.now.list.items c.perform.result.touched) c.set_last.ensures c.perform.ensures.leaves
