use Rattle.std.proofs.Common.{sym, ap, subst}
use Rattle.pearl_kernel.specs.Kept.{Kept, IsLawful}
use Rattle.pearl_kernel.proofs.Acting.{still-of, kept-stirred}
use Rattle.pearl_kernel.proofs.Lawful.{lawful-interrupt, same-interrupt}
use Rattle.pearl_kernel.proofs.Naming.{lawful-timely}
use Rattle.pearl_kernel.proofs.kernel.Kernel.interrupt.Goals as goal

pub interrupted-changed-requires-clause-timely : goal.interrupted-changed-requires-clause-timely
interrupted-changed-requires-clause-timely c =
    let of = c.self.invariant.lawful in
    lawful-timely of.0 c.self.inside.state of.1

pub renew_if-requires : goal.renew_if-requires
renew_if-requires c =
    let s = c.self.inside.state in
    let f = c.requires.there in
    let before = subst (λ (k : Kept). IsLawful f.0 k) (sym c.self.view_is) f.1 in
    let lawful = subst (λ (k : Kept). IsLawful f.0 k) (sym c.interrupted-changed.ensures.occurs)
    (lawful-interrupt c.cores_stay_recordable.ensures.arrives f.0 s c.args.device f.2 before) in
    still-of f.0 s c.interrupted-changed.new.self c.self.inside.standing before lawful c.self.invariant

pub invariant_of-self : goal.invariant_of-self
invariant_of-self c =
    let s = c.self.inside in
    let f = c.requires.there in
    let before = subst (λ (k : Kept). IsLawful f.0 k) (sym c.self.view_is) f.1 in
    let lawful = subst (λ (k : Kept). IsLawful f.0 k) (sym c.interrupted-changed.ensures.occurs)
    (lawful-interrupt c.cores_stay_recordable.ensures.arrives f.0 s.state c.args.device f.2 before) in
    kept-stirred f.0 s.state c.interrupted-changed.new.self s.standing c.renew_if.new.self c.interrupted-changed.result before lawful
    (ap (λ (k : Kept). k.offers) c.interrupted-changed.ensures.occurs) c.interrupted-changed.ensures.stirs c.self.invariant c.renew_if.ensures

pub returns-clause-lawful : goal.returns-clause-lawful
returns-clause-lawful c = λ setup lawful.
    let s = c.self.inside.state in
    let f = c.requires.there in
    let first = subst (λ (k : Kept). IsLawful f.0 k) (sym c.self.view_is) f.1 in
    let before = subst (λ (k : Kept). IsLawful setup k) (sym c.self.view_is) lawful in
    let is = same-interrupt f.0.devices setup.devices s.core.channels c.args.device first.kinds.channels
    before.kinds.channels f.2 in
    subst (λ (k : Kept). IsLawful setup k) (sym c.interrupted-changed.ensures.occurs) (lawful-interrupt c.cores_stay_recordable.ensures.arrives setup s c.args.device is before)
