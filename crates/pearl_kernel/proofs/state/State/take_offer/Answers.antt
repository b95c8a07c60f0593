use Rattle.std.proofs.Common.{◌≡◌, ◌<◌, [], None, length, slice_set, sym, ap, subst, ◌∙◌, arith}
use Rattle.pearl_rules.specs.Core.{is_active}
use Rattle.pearl_sema.specs.Waiting.{Sema}
use Rattle.pearl_kernel.specs.Kept.{Kept}
use Rattle.pearl_kernel.specs.Requests.{requests}
use Rattle.pearl_kernel.proofs.Requesting.{requests-length, requests-set}
use Rattle.pearl_kernel.proofs.Getting.{asked-gone}
use Rattle.pearl_kernel.proofs.Waiting.{get-is}
use Rattle.pearl_kernel.proofs.Listeners.{marks-there, marks-of, listening-gone}
use Rattle.pearl_kernel.proofs.Unsettling.{unsettled-gone}
use Rattle.pearl_kernel.proofs.state.State.take_offer.Goals as goal

pub forget-requires : goal.forget-requires
forget-requires c =
    let s = c.self.inside in
    let there = subst (λ (k : Kept). c.args.task < length k.offers) (sym c.self.view_is) c.requires in
    let same = ap (λ xs. length xs) c.self.invariant.1 in
    omega (arith, there, requests-length s.offers.items, same)

pub leave-requires-clause-task : goal.leave-requires-clause-task
leave-requires-clause-task c =
    let there = subst (λ (k : Kept). c.args.task < length k.offers) (sym c.self.view_is) c.requires in
    let few = c.self.invariant.4.few in
    omega (arith, there, few)

pub leave-requires-clause-there : goal.leave-requires-clause-there
leave-requires-clause-there c =
    let s = c.self.inside in
    let there = subst (λ (k : Kept). c.args.task < length k.offers) (sym c.self.view_is) c.requires in
    marks-there (length s.channels.items) s.offers.items s.listening.items c.args.task c.index.result.now c.awaited.result
    c.self.invariant.4 (get-is s.offers.items c.args.task c.index.result.now there c.index.ensures) c.awaited.ensures

pub invariant_of-self : goal.invariant_of-self
invariant_of-self c =
    let s = c.self.inside in
    let there = subst (λ (k : Kept). c.args.task < length k.offers) (sym c.self.view_is) c.requires in
    let active = subst (λ (k : Kept). c.is_active-active.result ≡ is_active k.core c.args.task) (sym c.self.view_is)
    c.is_active-active.ensures in (
      c.self.invariant.0,
      ap (λ (x : Sema). x.waiting) c.forget.ensures
          ∙ ap (λ xs. slice_set xs c.args.task []) c.self.invariant.1
          ∙ sym (requests-set s.offers.items c.args.task None)
          ∙ ap (λ o. requests (slice_set s.offers.items c.args.task o)) (sym c.take.ensures.rest),
      unsettled-gone s.rows.items s.offers.items s.unsettled.items c.self.invariant.2 c.args.task c.take.new.self
          c.put.new.words.items c.is_active-active.result there c.put.ensures.bits c.put.ensures.words active c.take.ensures.rest,
      asked-gone s.offers.items s.formats.items s.channels.items s.progress.items c.args.task c.take.new.self c.take.ensures.rest there c.self.invariant.3,
      listening-gone (length s.channels.items) s.offers.items s.listening.items c.leave.new.rows.items c.args.task
          c.take.new.self c.self.invariant.4 there
          (marks-of s.offers.items s.listening.items c.leave.new.rows.items c.args.task 0 c.index.result.now
          c.awaited.result (get-is s.offers.items c.args.task c.index.result.now there c.index.ensures) c.awaited.ensures
          c.leave.ensures) c.take.ensures.rest,
    )
