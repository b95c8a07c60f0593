use Rattle.std.proofs.Common.{◌≡◌, true, sym, subst}
use Rattle.pearl_exchange.specs.Offers.{action_of}
use Rattle.pearl_kernel.specs.Kept.{Kept, is_unsettled, IsLawful}
use Rattle.pearl_kernel.specs.Whole.{IsWhole}
use Rattle.pearl_kernel.specs.Eligible.{Stand, possible, noted}
use Rattle.pearl_kernel.proofs.Naming.{fits-names, names-all}
use Rattle.pearl_kernel.proofs.Offering.{unsettled-there, lawful-offering, kept-offering}
use Rattle.pearl_kernel.proofs.kernel.Kernel.offered.Goals as goal

pub set_offer-requires-clause-names : goal.set_offer-requires-clause-names
set_offer-requires-clause-names c =
    let f = c.requires.fits in
    let before = subst (λ (k : Kept). IsLawful f.0 k) (sym c.self.view_is) f.1 in
    fits-names f.0 c.self.inside.state before (action_of c.args.offer.now.value) f.2

pub offered-requires-clause-names : goal.offered-requires-clause-names
offered-requires-clause-names c =
    let s = c.self.inside.state in
    let f = c.requires.fits in
    let unsettled = subst (λ (k : Kept). is_unsettled k c.args.task ≡ true) (sym c.self.view_is) c.requires.unsettled in
    let before = subst (λ (k : Kept). IsLawful f.0 k) (sym c.self.view_is) f.1 in
    names-all f.0 c.set_offer.new.self (subst (λ (k : Kept). IsLawful f.0 k) (sym c.set_offer.ensures)
    (lawful-offering f.0 s c.args.task (action_of c.args.offer.now.value) unsettled f.2 before))

pub invariant_of-self : goal.invariant_of-self
invariant_of-self c =
    let s = c.self.inside in
    let f = c.requires.fits in
    let unsettled = subst (λ (k : Kept). is_unsettled k c.args.task ≡ true) (sym c.self.view_is) c.requires.unsettled in
    let before = subst (λ (k : Kept). IsLawful f.0 k) (sym c.self.view_is) f.1 in
    let kept = kept-offering f.0 s.state s.standing c.args.task (action_of c.args.offer.now.value) (unsettled-there s.state c.args.task unsettled)
    (lawful-offering f.0 s.state c.args.task (action_of c.args.offer.now.value) unsettled f.2 before) c.self.invariant in
    subst (λ (x : Stand). IsWhole c.set_offer.new.self x) (sym c.offered.ensures)
    (subst (λ (k : Kept). IsWhole k (noted k c.args.task (possible k c.args.task) s.standing))
    (sym c.set_offer.ensures) kept)

pub returns-clause-lawful : goal.returns-clause-lawful
returns-clause-lawful c = λ setup lawful fits.
    let s = c.self.inside.state in
    let before = subst (λ (k : Kept). IsLawful setup k) (sym c.self.view_is) lawful in
    let unsettled = subst (λ (k : Kept). is_unsettled k c.args.task ≡ true) (sym c.self.view_is) c.requires.unsettled in
    subst (λ (k : Kept). IsLawful setup k) (sym c.set_offer.ensures)
    (lawful-offering setup s c.args.task (action_of c.args.offer.now.value) unsettled fits before)
