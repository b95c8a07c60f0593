use Rattle.std.proofs.Common.{inl, inr, sym, ◌∙◌}
use Rattle.pearl_machine.proofs.Calls.{picked_call}
use Rattle.pearl_machine.proofs.machine.Machine.at_once.Goals as goal

pub returns-in-None-clause-free : goal.returns-in-None-clause-free
returns-in-None-clause-free c =
    let m = c.self.inside in
    inr (inl (picked_call m.code m.setup m.kernel m.parts.items m.due c.self.invariant c.args.self.now c.self.view_is ∙ sym c.in-None.ensures.picked))
