use Rattle.std.proofs.Common.{sym, ◌∙◌}
use Rattle.pearl_kernel.proofs.Picking.{can-turn-is}
use Rattle.pearl_kernel.proofs.kernel.Kernel.can_turn.Goals as goal

pub returns-in_default-entry : goal.returns-in_default-entry
returns-in_default-entry c =
    c.eq.ensures ∙ can-turn-is c.args.self.now c.args.task c.in-Some.best c.entry.result c.entry-in_default-entry.result
    (sym c.in-Some.ensures.picked) c.entry.ensures c.entry-in_default-entry.ensures c.in_default-entry.not-None
