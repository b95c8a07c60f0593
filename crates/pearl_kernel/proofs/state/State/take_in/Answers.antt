use Rattle.std.proofs.Common.{◌≡◌, ◌<◌, Some, length, slice_get, sym, subst, arith, length-set}
use Rattle.pearl_kernel.specs.Listening.{AreListening}
use Rattle.pearl_kernel.specs.Kept.{Kept}
use Rattle.pearl_kernel.proofs.Getting.{asked-still, channel-same, took-same}
use Rattle.pearl_kernel.proofs.Waiting.{get-is, values-there, took-in}
use Rattle.pearl_kernel.proofs.state.State.take_in.Goals as goal

pub invariant_of-self : goal.invariant_of-self
invariant_of-self c =
    let s = c.self.inside in
    let there = subst (λ (k : Kept). c.args.device < length k.core.channels) (sym c.self.view_is)
    (values-there c.args.self.now.core c.args.device c.args.value.now c.requires) in
    let at = get-is s.channels.items c.args.device c.index_mut.result.now there c.index_mut.ensures.value in (
      c.self.invariant.0,
      c.self.invariant.1,
      c.self.invariant.2,
      asked-still s.offers.items s.formats.items s.channels.items _ s.progress.items
          (channel-same s.channels.items c.args.device c.take_in.new.self c.index_mut.result.now at
          (took-same c.args.value.now c.take_in.result c.index_mut.result.now c.take_in.new.self c.take_in.ensures.waiting)) c.self.invariant.3,
      subst (λ n. AreListening n s.offers.items s.listening.items)
          (sym (length-set s.channels.items c.args.device c.take_in.new.self)) c.self.invariant.4,
    )

pub returns-clause-waiting : goal.returns-clause-waiting
returns-clause-waiting c =
    let k = c.args.self.now in
    let there = values-there k.core c.args.device c.args.value.now c.requires in
    let at = subst (λ (x : Kept). c.args.device < length x.core.channels → slice_get x.core.channels c.args.device ≡ Some c.index_mut.result.now)
    c.self.view_is (λ within. get-is c.self.inside.channels.items c.args.device c.index_mut.result.now within c.index_mut.ensures.value) there in
    grind (
      arith,
      took-in k c.args.device c.args.value.now c.index_mut.result.now c.take_in.new.self c.take_in.result at c.take_in.ensures.waiting,
      c.self.view_is,
    )
