use Rattle.std.proofs.Common.{◌≡◌, ◌<◌, ◌∙◌, Some, length, slice_get, sym, ap, subst, arith, length-set}
use Rattle.pearl_kernel.specs.Listening.{AreListening}
use Rattle.pearl_rules.specs.Core.{Channel}
use Rattle.pearl_rules.specs.Devices.{bytes_in}
use Rattle.pearl_kernel.specs.Kept.{Kept}
use Rattle.pearl_kernel.proofs.Getting.{asked-still, channel-same, oldest-same}
use Rattle.pearl_kernel.proofs.Waiting.{get-is, served-one}
use Rattle.pearl_kernel.proofs.state.State.next_value.Goals as goal

pub invariant_of-self : goal.invariant_of-self
invariant_of-self c =
    let s = c.self.inside in
    let there = subst (λ (k : Kept). c.args.device < length k.core.channels) (sym c.self.view_is) c.requires in
    let at = get-is s.channels.items c.args.device c.index_mut.result.now there c.index_mut.ensures.value in (
      c.self.invariant.0,
      c.self.invariant.1,
      c.self.invariant.2,
      asked-still s.offers.items s.formats.items s.channels.items _ s.progress.items
          (channel-same s.channels.items c.args.device c.next.new.self c.index_mut.result.now at
          (ap (λ (channel : Channel). bytes_in (Some channel)) c.next.ensures.waiting ∙ oldest-same c.index_mut.result.now)) c.self.invariant.3,
      subst (λ n. AreListening n s.offers.items s.listening.items)
          (sym (length-set s.channels.items c.args.device c.next.new.self)) c.self.invariant.4,
    )

pub returns-clause-waiting : goal.returns-clause-waiting
returns-clause-waiting c =
    let k = c.args.self.now in
    let at = subst (λ (x : Kept). c.args.device < length x.core.channels → slice_get x.core.channels c.args.device ≡ Some c.index_mut.result.now)
    c.self.view_is (λ within. get-is c.self.inside.channels.items c.args.device c.index_mut.result.now within c.index_mut.ensures.value) c.requires in
    grind (arith, served-one k c.args.device c.index_mut.result.now c.next.new.self at c.next.ensures.waiting, c.self.view_is)
