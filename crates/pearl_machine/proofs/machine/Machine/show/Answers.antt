use Rattle.std.proofs.Common.{inl}
use Rattle.pearl_machine.proofs.Acting.{ready_due}
use Rattle.pearl_machine.proofs.Calls.{all_settled, shows_call, tells_call}
use Rattle.pearl_machine.proofs.machine.Machine.show.Goals as goal

pub invariant_of-self : goal.invariant_of-self
invariant_of-self c =
    let m = c.self.inside in
    ready_due m.code m.setup m.kernel m.parts.items m.due 0 c.self.invariant
    (inl (all_settled m.code m.setup m.kernel m.parts.items m.due c.self.invariant c.args.self.now c.self.view_is c.requires.settled))

pub returns-clause-same : goal.returns-clause-same
returns-clause-same c =
    let m = c.self.inside in
    shows_call m.code m.setup m.kernel m.parts.items m.due c.self.invariant c.args.self.now c.self.view_is c.requires.taken

pub returns-clause-tells : goal.returns-clause-tells
returns-clause-tells c =
    let m = c.self.inside in
    tells_call m.code m.setup m.kernel m.parts.items m.due c.self.invariant c.args.self.now c.self.view_is c.requires.taken
