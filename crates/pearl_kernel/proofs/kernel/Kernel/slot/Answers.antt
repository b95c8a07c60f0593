use Rattle.std.proofs.Common.{◌<◌, length, sym, subst}
use Rattle.pearl_value.specs.WellFormed.{IsValue}
use Rattle.pearl_kernel.specs.Kept.{Kept}
use Rattle.pearl_kernel.proofs.Naming.{slot-value}
use Rattle.pearl_kernel.proofs.kernel.Kernel.slot.Goals as goal

pub returns-clause-is_value : goal.returns-clause-is_value
returns-clause-is_value c =
    let s = c.self.inside in
    let there = subst (λ (k : Kept). c.args.slot < length k.core.slots) (sym c.self.view_is) c.requires in
    subst IsValue (sym c.slot.ensures)
    (slot-value c.self.invariant.lawful.0 s.state c.self.invariant.lawful.1 c.args.slot there)
