use Rattle.std.proofs.Common.{◌<◌, Some, length, slice_set, sym, ap, subst, ◌∙◌, arith}
use Rattle.pearl_sema.specs.Waiting.{Sema, AreThere}
use Rattle.pearl_exchange.specs.declared.offer.Offer.{Offer}
use Rattle.pearl_exchange.specs.Offers.{action_of}
use Rattle.pearl_kernel.specs.Kept.{Kept}
use Rattle.pearl_kernel.specs.Requests.{requested_by, requests}
use Rattle.pearl_kernel.proofs.Requesting.{requests-length, requests-set, request-there}
use Rattle.pearl_kernel.proofs.Getting.{asked-offer, names-kinds}
use Rattle.pearl_kernel.specs.Listening.{device_of, Marks}
use Rattle.pearl_kernel.proofs.Waiting.{get-is}
use Rattle.pearl_kernel.proofs.Listeners.{bit-there, low-length, named-there, marks-there, marks-of, listening-offer}
use Rattle.pearl_kernel.proofs.Unsettling.{unsettled-offer}
use Rattle.pearl_kernel.proofs.state.State.set_offer.Goals as goal

pub keep_request-requires-clause-task : goal.keep_request-requires-clause-task
keep_request-requires-clause-task c =
    let s = c.self.inside in
    let there = subst (λ (k : Kept). c.args.task < length k.offers) (sym c.self.view_is) c.requires.task in
    let same = ap (λ xs. length xs) c.self.invariant.1 in
    omega (arith, there, requests-length s.offers.items, same)

pub keep_request-requires-clause-list : goal.keep_request-requires-clause-list
keep_request-requires-clause-list c =
    let a = action_of c.args.offer.now.value in
    rw c.deref.ensures
    (subst (λ (k : Kept). AreThere k.core.counts (requested_by a)) (sym c.self.view_is)
    (request-there c.args.self.now.core a c.requires.names))

pub ask_first-requires-clause-task : goal.ask_first-requires-clause-task
ask_first-requires-clause-task c =
    let there = subst (λ (k : Kept). c.args.task < length k.offers) (sym c.self.view_is) c.requires.task in
    let same = c.self.invariant.3.size in
    omega (arith, there, same)

pub ask_first-requires-clause-kinds : goal.ask_first-requires-clause-kinds
ask_first-requires-clause-kinds c =
    rw c.deref-2.ensures (names-kinds c.args.self.now.core (action_of c.args.offer.now.value) c.requires.names)

pub leave-requires-clause-task : goal.leave-requires-clause-task
leave-requires-clause-task c =
    let there = subst (λ (k : Kept). c.args.task < length k.offers) (sym c.self.view_is) c.requires.task in
    let few = c.self.invariant.4.few in
    omega (arith, there, few)

pub leave-requires-clause-there : goal.leave-requires-clause-there
leave-requires-clause-there c =
    let s = c.self.inside in
    let there = subst (λ (k : Kept). c.args.task < length k.offers) (sym c.self.view_is) c.requires.task in
    marks-there (length s.channels.items) s.offers.items s.listening.items c.args.task c.index.result.now c.awaited.result
    c.self.invariant.4 (get-is s.offers.items c.args.task c.index.result.now there c.index.ensures) c.awaited.ensures

pub listen-requires-clause-task : goal.listen-requires-clause-task
listen-requires-clause-task c =
    let there = subst (λ (k : Kept). c.args.task < length k.offers) (sym c.self.view_is) c.requires.task in
    let few = c.self.invariant.4.few in
    omega (arith, there, few)

pub listen-requires-clause-there : goal.listen-requires-clause-there
listen-requires-clause-there c =
    let s = c.self.inside in
    bit-there (length s.channels.items) c.leave.new.rows.items c.device_of.result
    (low-length s.listening.items c.leave.new.rows.items c.args.task 0 c.awaited.result c.leave.ensures
    ∙ c.self.invariant.4.words)
    (λ d e. subst (λ (k : Kept). d < length k.core.channels) (sym c.self.view_is)
    (named-there c.args.self.now.core (action_of c.args.offer.now.value) c.requires.names d
    (sym (c.device_of.ensures ∙ ap (λ (o : Offer). device_of (action_of o)) c.deref-3.ensures) ∙ e)))

pub invariant_of-self : goal.invariant_of-self
invariant_of-self c =
    let s = c.self.inside in
    let there = subst (λ (k : Kept). c.args.task < length k.offers) (sym c.self.view_is) c.requires.task in
    let a = action_of c.args.offer.now.value in (
      c.self.invariant.0,
      ap (λ (x : Sema). x.waiting) c.keep_request.ensures
          ∙ ap (λ (o : Offer). slice_set s.semas.waiting c.args.task (requested_by (action_of o))) c.deref.ensures
          ∙ ap (λ xs. slice_set xs c.args.task (requested_by a)) c.self.invariant.1
          ∙ sym (requests-set s.offers.items c.args.task (Some a))
          ∙ ap (λ o. requests (slice_set s.offers.items c.args.task o)) (sym c.put.ensures),
      unsettled-offer s.rows.items s.offers.items s.unsettled.items c.self.invariant.2 c.args.task c.put.new.self a
          c.lower.new.words.items there c.lower.ensures.bits c.lower.ensures.words c.put.ensures,
      asked-offer s.offers.items s.formats.items s.channels.items s.progress.items c.ask_first.new.progress.items c.args.task a c.put.new.self
          c.put.ensures there (rw (c.as_slice-formats.ensures.value, c.as_slice-channels.ensures.value, c.deref-2.ensures) at c.ask_first.ensures)
          c.self.invariant.3,
      listening-offer (length s.channels.items) s.offers.items s.listening.items c.leave.new.rows.items
          c.listen.new.rows.items c.args.task a c.put.new.self c.self.invariant.4 there
          (marks-of s.offers.items s.listening.items c.leave.new.rows.items c.args.task 0 c.index.result.now
          c.awaited.result (get-is s.offers.items c.args.task c.index.result.now there c.index.ensures) c.awaited.ensures
          c.leave.ensures)
          (subst (Marks c.leave.new.rows.items c.listen.new.rows.items c.args.task 1)
          (c.device_of.ensures ∙ ap (λ (o : Offer). device_of (action_of o)) c.deref-3.ensures) c.listen.ensures)
          (λ d e. subst (λ (k : Kept). d < length k.core.channels) (sym c.self.view_is)
          (named-there c.args.self.now.core a c.requires.names d e))
          c.put.ensures,
    )
