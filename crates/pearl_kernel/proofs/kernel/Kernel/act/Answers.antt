use Rattle.std.proofs.Common.{◌≡◌, ℕ, ◌<◌, List, [], Some, true, length, sym, ap, subst, ◌∙◌, length-set}
use Rattle.pearl_rules.specs.Pick.{pick, guard}
use Rattle.pearl_exchange.specs.declared.offer.Offer.{Offer}
use Rattle.pearl_exchange.specs.Offers.{action_of}
use Rattle.pearl_kernel.specs.Kept.{Kept, offered, done, IsLawful}
use Rattle.pearl_kernel.specs.Names.{Names}
use Rattle.pearl_kernel.specs.Whole.{IsWhole, IsOfTasks, HasRoom}
use Rattle.pearl_kernel.specs.Touched.{reach_of, IsThere, IsRenewed, Leaves}
use Rattle.pearl_kernel.proofs.Acting.{picked-offers, picked-able, still-of, there-after, kept-after, acted}
use Rattle.pearl_kernel.proofs.Naming.{names-all, lawful-timely}
use Rattle.pearl_kernel.proofs.kernel.Kernel.act.Goals as goal

taken : (s : Kept) (t : ℕ) (kept at : Offer) → offered s t ≡ Some (action_of kept) → at ≡ kept → offered s t ≡ Some (action_of at)
taken s t kept at offers same = subst (λ (o : Offer). offered s t ≡ Some (action_of o)) (sym same) offers

pub invariant_of-self : goal.invariant_of-self
invariant_of-self c =
    let picked = subst (λ (k : Kept). pick k.core (offered k) ≡ Some c.in-Some.task) (sym c.self.view_is)
    (sym c.in-Some.ensures.picked) in
    absurd (picked-offers c.self.inside.state c.in-Some.task picked (c.take_offer.ensures.none c.if-not-take_offer.true))

pub returns-then-not-take_offer-clause-acted : goal.returns-then-not-take_offer-clause-acted
returns-then-not-take_offer-clause-acted c =
    let picked = subst (λ (k : Kept). pick k.core (offered k) ≡ Some c.in-Some.task) (sym c.self.view_is)
    (sym c.in-Some.ensures.picked) in
    absurd (picked-offers c.self.inside.state c.in-Some.task picked (c.take_offer.ensures.none c.if-not-take_offer.true))

pub returns-then-not-take_offer-clause-lawful : goal.returns-then-not-take_offer-clause-lawful
returns-then-not-take_offer-clause-lawful c =
    let picked = subst (λ (k : Kept). pick k.core (offered k) ≡ Some c.in-Some.task) (sym c.self.view_is)
    (sym c.in-Some.ensures.picked) in
    absurd (picked-offers c.self.inside.state c.in-Some.task picked (c.take_offer.ensures.none c.if-not-take_offer.true))

pub act-done-requires-clause-room : goal.act-done-requires-clause-room
act-done-requires-clause-room c =
    let s = c.self.inside.state in
    let of = c.self.invariant.lawful in
    let timely = lawful-timely of.0 s of.1 in
    let there = subst (λ (k : Kept). c.in-Some.task < length k.core.tasks) (sym c.self.view_is)
    c.in-Some.ensures.there in
    let told = subst (λ (k : Kept). k.core.told ≡ []) (sym c.self.view_is) c.requires in
    subst (λ (k : Kept). HasRoom k c.in-Some.task) (sym c.take_offer.ensures.rest) (record {
      there = there;
      few = c.self.invariant.few;
      same = length-set s.offers c.in-Some.task _ ∙ of.1.same;
      timely = timely;
      room = told;
    })

pub act-done-requires-clause-names : goal.act-done-requires-clause-names
act-done-requires-clause-names c =
    let of = c.self.invariant.lawful in
    subst (λ (k : Kept). Names k.core (action_of c.deref.result.now)) (sym c.take_offer.ensures.rest)
    (names-all of.0 c.self.inside.state of.1 c.in-Some.task (action_of c.deref.result.now)
    (taken c.self.inside.state c.in-Some.task _ _ (c.take_offer.ensures.taken c.if-not-take_offer.false) c.deref.ensures))

pub act-done-requires-clause-able : goal.act-done-requires-clause-able
act-done-requires-clause-able c =
    let s = c.self.inside.state in
    let picked = subst (λ (k : Kept). pick k.core (offered k) ≡ Some c.in-Some.task) (sym c.self.view_is)
    (sym c.in-Some.ensures.picked) in
    subst (λ (k : Kept). guard k.core (action_of c.deref.result.now) ≡ true) (sym c.take_offer.ensures.rest)
    (picked-able s c.in-Some.task (action_of c.deref.result.now) picked (taken c.self.inside.state c.in-Some.task _ _ (c.take_offer.ensures.taken c.if-not-take_offer.false) c.deref.ensures))

pub renew-requires-clause-tasks : goal.renew-requires-clause-tasks
renew-requires-clause-tasks c =
    let s = c.self.inside.state in
    let of = c.self.invariant.lawful in
    let t = c.in-Some.task in
    let a = (action_of c.deref.result.now) in
    let there = subst (λ (k : Kept). t < length k.core.tasks) (sym c.self.view_is) c.in-Some.ensures.there in
    let new = acted c.cores_stay_recordable.ensures.acts of.0 s c.take_offer.new.self c.act-done.new.self t a of.1 there
    (taken c.self.inside.state c.in-Some.task _ _ (c.take_offer.ensures.taken c.if-not-take_offer.false) c.deref.ensures) c.take_offer.ensures.rest c.act-done.ensures.state in
    subst (λ (k : Kept). IsOfTasks k c.self.inside.standing) (sym new.is)
    (still-of of.0 s (done s t a) c.self.inside.standing of.1 new.lawful c.self.invariant)

pub renew-requires-clause-own : goal.renew-requires-clause-own
renew-requires-clause-own c =
    let s = c.self.inside.state in
    let of = c.self.invariant.lawful in
    let t = c.in-Some.task in
    let a = (action_of c.deref.result.now) in
    let there = subst (λ (k : Kept). t < length k.core.tasks) (sym c.self.view_is) c.in-Some.ensures.there in
    let new = acted c.cores_stay_recordable.ensures.acts of.0 s c.take_offer.new.self c.act-done.new.self t a of.1 there
    (taken c.self.inside.state c.in-Some.task _ _ (c.take_offer.ensures.taken c.if-not-take_offer.false) c.deref.ensures) c.take_offer.ensures.rest c.act-done.ensures.state in
    subst (λ (k : Kept). t < length k.core.tasks) (sym new.is)
    (subst (λ n. t < n) (of.1.tasks ∙ sym new.lawful.tasks) there)

pub renew-requires-clause-there : goal.renew-requires-clause-there
renew-requires-clause-there c =
    let s = c.self.inside.state in
    let of = c.self.invariant.lawful in
    let t = c.in-Some.task in
    let a = (action_of c.deref.result.now) in
    let there = subst (λ (k : Kept). t < length k.core.tasks) (sym c.self.view_is) c.in-Some.ensures.there in
    let new = acted c.cores_stay_recordable.ensures.acts of.0 s c.take_offer.new.self c.act-done.new.self t a of.1 there
    (taken c.self.inside.state c.in-Some.task _ _ (c.take_offer.ensures.taken c.if-not-take_offer.false) c.deref.ensures) c.take_offer.ensures.rest c.act-done.ensures.state in
    let touched = reach_of c.as_slice-list.result.now c.act-done.result.touched in
    let same = c.as_slice-list.ensures.value ∙ ap (λ (o : Offer). o.list.items) (c.deref-2.ensures ∙ sym c.deref.ensures) in
    let leaving = subst (λ (xs : List ℕ). Leaves t c.take_offer.new.self c.act-done.new.self (reach_of xs c.act-done.result.touched))
    (sym same) c.act-done.ensures.leaves in
    let named = subst (λ (k : Kept). IsThere k.core touched) c.take_offer.ensures.rest leaving.there in
    subst (λ (k : Kept). IsThere k.core touched) (sym new.is)
    (there-after s (done s t a) touched (new.lawful.tasks ∙ sym of.1.tasks) named)

pub invariant_of-self-2 : goal.invariant_of-self-2
invariant_of-self-2 c =
    let s = c.self.inside.state in
    let of = c.self.invariant.lawful in
    let t = c.in-Some.task in
    let a = (action_of c.deref.result.now) in
    let there = subst (λ (k : Kept). t < length k.core.tasks) (sym c.self.view_is) c.in-Some.ensures.there in
    let new = acted c.cores_stay_recordable.ensures.acts of.0 s c.take_offer.new.self c.act-done.new.self t a of.1 there
    (taken c.self.inside.state c.in-Some.task _ _ (c.take_offer.ensures.taken c.if-not-take_offer.false) c.deref.ensures) c.take_offer.ensures.rest c.act-done.ensures.state in
    let standing = c.self.inside.standing in
    let touched = reach_of c.as_slice-list.result.now c.act-done.result.touched in
    let renewed = subst (λ (k : Kept). IsRenewed k t touched standing c.renew.new.self) new.is
    c.renew.ensures in
    let same = c.as_slice-list.ensures.value ∙ ap (λ (o : Offer). o.list.items) (c.deref-2.ensures ∙ sym c.deref.ensures) in
    let leaving = subst (λ (xs : List ℕ). Leaves t c.take_offer.new.self c.act-done.new.self (reach_of xs c.act-done.result.touched))
    (sym same) c.act-done.ensures.leaves in
    let leaves = subst (λ (k : Kept). Leaves t c.take_offer.new.self k touched) new.is leaving in
    let left = subst (λ (k : Kept). Leaves t k (done s t a) touched) c.take_offer.ensures.rest leaves in
    subst (λ (k : Kept). IsWhole k c.renew.new.self) (sym new.is)
    (kept-after of.0 s standing c.renew.new.self t a touched
    of.1 new.lawful c.self.invariant left renewed)

pub returns-clause-lawful : goal.returns-clause-lawful
returns-clause-lawful c = λ setup lawful.
    let s = c.self.inside.state in
    let t = c.in-Some.task in
    let a = (action_of c.deref.result.now) in
    let before = subst (λ (k : Kept). IsLawful setup k) (sym c.self.view_is) lawful in
    let there = subst (λ (k : Kept). t < length k.core.tasks) (sym c.self.view_is) c.in-Some.ensures.there in
    let new = acted c.cores_stay_recordable.ensures.acts setup s c.take_offer.new.self c.act-done.new.self t a before there
    (taken c.self.inside.state c.in-Some.task _ _ (c.take_offer.ensures.taken c.if-not-take_offer.false) c.deref.ensures) c.take_offer.ensures.rest c.act-done.ensures.state in
    subst (λ (k : Kept). IsLawful setup k) (sym new.is) new.lawful
