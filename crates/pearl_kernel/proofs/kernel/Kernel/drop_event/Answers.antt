use Rattle.std.proofs.Common.{sym, subst, drop}
use Rattle.pearl_kernel.specs.Kept.{Kept, IsLawful}
use Rattle.pearl_kernel.specs.Whole.{IsWhole}
use Rattle.pearl_kernel.proofs.Acting.{kept-told}
use Rattle.pearl_kernel.proofs.Lawful.{lawful-dropped}
use Rattle.pearl_kernel.proofs.kernel.Kernel.drop_event.Goals as goal

pub invariant_of-self : goal.invariant_of-self
invariant_of-self c =
    let s = c.self.inside in
    let of = c.self.invariant.lawful in
    subst (λ (k : Kept). IsWhole k s.standing) (sym c.drop_event.ensures)
    (kept-told of.0 s.state s.standing (drop 1 s.state.core.told) (lawful-dropped of.0 s.state of.1) c.self.invariant)

pub returns-clause-lawful : goal.returns-clause-lawful
returns-clause-lawful c = λ setup lawful.
    let s = c.self.inside in
    let before = subst (λ (k : Kept). IsLawful setup k) (sym c.self.view_is) lawful in
    subst (λ (k : Kept). IsLawful setup k) (sym c.drop_event.ensures) (lawful-dropped setup s.state before)
