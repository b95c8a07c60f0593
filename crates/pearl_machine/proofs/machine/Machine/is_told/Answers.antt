use Rattle.std.proofs.Common.{refl, arith}
use Rattle.pearl_machine.proofs.Calls.{nothing_call}
use Rattle.pearl_machine.proofs.machine.Machine.is_told.Goals as goal

pub returns : goal.returns
returns c = λ e.
    let m = c.self.inside in
    (nothing_call m.code m.setup m.kernel m.parts.items m.due c.self.invariant c.args.self.now c.self.view_is m.kernel
    (c.is_told.ensures.told e) refl (omega (arith, c.tasks.ensures, c.if-self-tasks.false))).0
