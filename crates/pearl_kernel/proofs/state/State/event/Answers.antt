use Rattle.std.proofs.Common.{◌≡◌, [], MatchOption, Bor, subst}
use Rattle.pearl_rules.specs.declared.event.Event.{Event}
use Rattle.pearl_kernel.specs.Kept.{Kept, IsToldNext}
use Rattle.pearl_kernel.proofs.Events.{told-next}
use Rattle.pearl_kernel.proofs.state.State.event.Goals as goal

pub returns : goal.returns
returns c =
    let s = c.self.inside in
    subst (λ (k : Kept). MatchOption c.first.result (k.core.told ≡ []) (λ (e : Bor Event). IsToldNext k.core e.now))
    c.self.view_is
    (told-next (λ (e : Bor Event). e.now) s.moment s.events c.first.result c.first.ensures)
