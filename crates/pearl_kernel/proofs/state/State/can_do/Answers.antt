use Rattle.std.proofs.Common.{◌≡◌, ◌<◌, ◌∙◌, Some, length, sym, ap, subst, arith}
use Rattle.std.proofs.lemmas.List.{get_or_read}
use Rattle.pearl_exchange.specs.Offers.{action_of, action_by}
use Rattle.pearl_scan.specs.Progress.{is_whole}
use Rattle.pearl_scan.specs.declared.progress.Progress.TheVariants.{Complete}
use Rattle.pearl_kernel.specs.Kept.{Kept, offered}
use Rattle.pearl_kernel.specs.Gets.{AreAsked}
use Rattle.pearl_kernel.proofs.Getting.{offered-there, get-tells}
use Rattle.pearl_kernel.proofs.state.State.can_do.Goals as goal

pub index-requires : goal.index-requires
index-requires c =
    let s = c.self.inside in
    let offered_is = subst (λ (k : Kept). offered k c.args.task ≡ Some (action_of c.args.offer.now)) (sym c.self.view_is) c.requires.offered in
    let there = offered-there s.offers.items c.args.task (action_of c.args.offer.now) offered_is in
    let same = c.self.invariant.3.size in
    omega (arith, there, same)

pub returns-in-Get : goal.returns-in-Get
returns-in-Get c =
    let s = c.self.inside in
    let a = action_of c.args.offer.now in
    let offered_is = subst (λ (k : Kept). offered k c.args.task ≡ Some a) (sym c.self.view_is) c.requires.offered in
    let there = offered-there s.offers.items c.args.task a offered_is in
    let same = c.self.invariant.3.size in
    let within : c.args.task < length s.progress.items = omega (arith, there, same) in
    let read = get_or_read s.progress.items c.args.task c.index.result.now within c.index.ensures Complete in
    let are = subst (λ (k : Kept). AreAsked s.offers.items k.core.formats k.core.channels s.progress.items) c.self.view_is c.self.invariant.3 in
    c.is_complete.ensures ∙ ap is_whole read
    ∙ get-tells c.args.self.now.core s.offers.items s.progress.items c.args.task c.in-Get.device c.in-Get.format a c.args.offer.now.kinds are offered_is
    (ap (λ w. action_by w c.args.offer.now) c.in-Get.is)
