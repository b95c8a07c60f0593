use Rattle.std.proofs.Common.{◌∙◌}
use Rattle.pearl_machine.proofs.Calls.{is_first_seen}
use Rattle.pearl_machine.proofs.machine.Machine.unsettled.Goals as goal

pub returns : goal.returns
returns c =
    let m = c.self.inside in
    c.is_some.ensures ∙ is_first_seen m.code m.setup m.kernel m.parts.items m.due c.self.invariant c.args.self.now c.self.view_is c.unsettled.result c.unsettled.ensures
