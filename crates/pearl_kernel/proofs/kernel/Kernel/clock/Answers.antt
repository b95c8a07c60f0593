use Rattle.std.proofs.Common.{sym, subst}
use Rattle.pearl_kernel.specs.Kept.{Kept, IsLawful}
use Rattle.pearl_kernel.specs.Whole.{IsWhole}
use Rattle.pearl_kernel.proofs.Acting.{kept-clock}
use Rattle.pearl_kernel.proofs.Lawful.{lawful-clock}
use Rattle.pearl_kernel.proofs.kernel.Kernel.clock.Goals as goal

pub invariant_of-self : goal.invariant_of-self
invariant_of-self c =
    let s = c.self.inside in
    let of = c.self.invariant.lawful in
    subst (λ (k : Kept). IsWhole k s.standing) (sym c.set_clock.ensures)
    (kept-clock of.0 s.state s.standing c.args.time (lawful-clock of.0 s.state c.args.time c.requires of.1) c.self.invariant)

pub returns-clause-lawful : goal.returns-clause-lawful
returns-clause-lawful c = λ setup lawful.
    let s = c.self.inside.state in
    let before = subst (λ (k : Kept). IsLawful setup k) (sym c.self.view_is) lawful in
    subst (λ (k : Kept). IsLawful setup k) (sym c.set_clock.ensures) (lawful-clock setup s c.args.time c.requires before)
