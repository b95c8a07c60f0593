use Rattle.std.proofs.Common.{ap, ◌∙◌}
use Rattle.pearl_kernel.specs.Kept.{Kept}
use Rattle.pearl_kernel.specs.Eligible.{possible}
use Rattle.pearl_kernel.proofs.Entries.{able-is}
use Rattle.pearl_kernel.proofs.kernel.Kernel.is_possible.Goals as goal

pub returns : goal.returns
returns c =
    let s = c.self.inside in
    let of = c.self.invariant.lawful in
    c.is_able.ensures ∙ able-is of.0 s.state s.standing c.args.task of.1 c.self.invariant.stand
    ∙ ap (λ (k : Kept). possible k c.args.task) c.self.view_is
