use Rattle.std.proofs.Common.{◌≡◌, [], sym, ◌∙◌, subst, arith}
use Rattle.pearl_kernel.specs.Kept.{Kept}
use Rattle.pearl_kernel.proofs.Events.{stamped-none}
use Rattle.pearl_kernel.proofs.state.State.set_moment.Goals as goal

pub returns : goal.returns
returns c =
    let s = c.self.inside in
    let none = subst (λ (k : Kept). k.core.told ≡ []) (sym c.self.view_is) c.requires in
    let same = stamped-none s.moment c.args.moment s.events none ∙ sym none in
    grind (arith, same, c.self.view_is)
