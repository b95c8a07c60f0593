use Rattle.std.proofs.Common.{sym, subst}
use Rattle.pearl_kernel.specs.Kept.{Kept, IsLawful}
use Rattle.pearl_kernel.specs.Whole.{IsWhole}
use Rattle.pearl_kernel.proofs.Acting.{kept-told}
use Rattle.pearl_kernel.proofs.Lawful.{lawful-taken}
use Rattle.pearl_kernel.proofs.kernel.Kernel.next_event.Goals as goal

pub invariant_of-self : goal.invariant_of-self
invariant_of-self c =
    let s = c.self.inside in
    let of = c.self.invariant.lawful in
    let lawful = lawful-taken of.0 s.state c.next_event.new.self c.next_event.result c.next_event.ensures.rest
    c.next_event.ensures.same of.1 in
    subst (λ (k : Kept). IsWhole k s.standing) (sym c.next_event.ensures.same)
    (kept-told of.0 s.state s.standing c.next_event.new.self.core.told
    (subst (λ (k : Kept). IsLawful of.0 k) c.next_event.ensures.same lawful) c.self.invariant)
