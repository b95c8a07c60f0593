use Rattle.std.proofs.Common.{length, ap, ◌∙◌}
use Rattle.pearl_kernel.specs.Kept.{Kept}
use Rattle.pearl_machine.proofs.Loading.{starts, ready}
use Rattle.pearl_machine.proofs.machine.Machine.load.Goals as goal

pub invariant_of-result : goal.invariant_of-result
invariant_of-result c =
    ready c.args.code c.in_ok-setup.setup c.in_ok-parts.parts.items _ c.in_ok-setup.ensures c.in_ok-parts.ensures.still
    (c.tasks-due.ensures ∙ ap (λ (k : Kept). length k.core.tasks) c.in_ok-kernel.ensures.opening)
    c.in_ok-kernel.kernel c.in_ok-kernel.ensures.opening c.laws_hold.ensures.laws c.laws_hold.ensures.valid c.laws_hold.ensures.object
    c.in_ok-kernel.ensures.lawful c.in_ok-parts.ensures.each c.in_ok-parts.ensures.memory

pub returns-clause-start : goal.returns-clause-start
returns-clause-start c =
    starts c.args.code c.in_ok-setup.setup c.in_ok-parts.parts.items _ c.in_ok-setup.ensures c.in_ok-parts.ensures.still
    (c.tasks-due.ensures ∙ ap (λ (k : Kept). length k.core.tasks) c.in_ok-kernel.ensures.opening)
    c.in_ok-kernel.kernel c.in_ok-kernel.ensures.opening
