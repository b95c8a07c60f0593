use Rattle.std.proofs.Common.{sym, ap, subst}
use Rattle.pearl_rules.specs.Entries.{EntryFits}
use Rattle.pearl_kernel.specs.Kept.{Kept, IsLawful}
use Rattle.pearl_kernel.proofs.Acting.{still-of, kept-stirred}
use Rattle.pearl_kernel.proofs.Lawful.{lawful-arrived}
use Rattle.pearl_kernel.proofs.Naming.{lawful-timely, comes-in}
use Rattle.pearl_kernel.proofs.kernel.Kernel.input.Goals as goal

pub arrive-changed-requires-clause-timely : goal.arrive-changed-requires-clause-timely
arrive-changed-requires-clause-timely c =
    let of = c.self.invariant.lawful in
    lawful-timely of.0 c.self.inside.state of.1

pub renew_if-requires : goal.renew_if-requires
renew_if-requires c =
    let s = c.self.inside.state in
    let f = c.requires.fits in
    let before = subst (λ (k : Kept). IsLawful f.0 k) (sym c.self.view_is) f.1 in
    let fits = subst (λ (k : Kept). EntryFits f.0 k.core.moment c.args.entry.now) (sym c.self.view_is) f.2 in
    let lawful = subst (λ (k : Kept). IsLawful f.0 k) (sym c.arrive-changed.ensures.arrived)
    (lawful-arrived c.cores_stay_recordable.ensures.arrives f.0 s c.args.entry.now fits before) in
    still-of f.0 s c.arrive-changed.new.self c.self.inside.standing before lawful c.self.invariant

pub invariant_of-self : goal.invariant_of-self
invariant_of-self c =
    let s = c.self.inside in
    let f = c.requires.fits in
    let before = subst (λ (k : Kept). IsLawful f.0 k) (sym c.self.view_is) f.1 in
    let fits = subst (λ (k : Kept). EntryFits f.0 k.core.moment c.args.entry.now) (sym c.self.view_is) f.2 in
    let lawful = subst (λ (k : Kept). IsLawful f.0 k) (sym c.arrive-changed.ensures.arrived)
    (lawful-arrived c.cores_stay_recordable.ensures.arrives f.0 s.state c.args.entry.now fits before) in
    kept-stirred f.0 s.state c.arrive-changed.new.self s.standing c.renew_if.new.self c.arrive-changed.result before lawful
    (ap (λ (k : Kept). k.offers) c.arrive-changed.ensures.arrived) c.arrive-changed.ensures.stirs c.self.invariant c.renew_if.ensures

pub arrive-changed-requires-clause-comes : goal.arrive-changed-requires-clause-comes
arrive-changed-requires-clause-comes c =
    let s = c.self.inside.state in
    let f = c.requires.fits in
    let before = subst (λ (k : Kept). IsLawful f.0 k) (sym c.self.view_is) f.1 in
    comes-in f.0 s before c.args.entry.now
    (subst (λ (k : Kept). EntryFits f.0 k.core.moment c.args.entry.now) (sym c.self.view_is) f.2)

pub returns-clause-lawful : goal.returns-clause-lawful
returns-clause-lawful c = λ setup lawful comes.
    let s = c.self.inside.state in
    let before = subst (λ (k : Kept). IsLawful setup k) (sym c.self.view_is) lawful in
    let fits = subst (λ (k : Kept). EntryFits setup k.core.moment c.args.entry.now) (sym c.self.view_is) comes in
    subst (λ (k : Kept). IsLawful setup k) (sym c.arrive-changed.ensures.arrived) (lawful-arrived c.cores_stay_recordable.ensures.arrives setup s c.args.entry.now fits before)
