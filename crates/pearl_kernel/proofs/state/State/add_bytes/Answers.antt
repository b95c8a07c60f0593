use Rattle.std.proofs.Common.{◌≡◌, ◌<◌, ◌++◌, length, slice_get, slice_set, sym, subst, arith, if◌then◌else◌}
use Rattle.pearl_rules.specs.Core.{Bytes}
use Rattle.pearl_rules.specs.Devices.{bytes_at}
use Rattle.pearl_kernel.specs.Channels.{HasBytes}
use Rattle.pearl_kernel.specs.Kept.{Kept}
use Rattle.pearl_kernel.proofs.Getting.{added-at, added-length, comes-in}
use Rattle.pearl_kernel.specs.Listening.{AreListening}
use Rattle.pearl_kernel.proofs.Waiting.{bytes-there}
use Rattle.pearl_kernel.proofs.state.State.add_bytes.Goals as goal

pub add_at-kept-requires-clause-terminal : goal.add_at-kept-requires-clause-terminal
add_at-kept-requires-clause-terminal c =
    subst (λ (k : Kept). HasBytes (slice_get k.core.channels c.args.device)) (sym c.self.view_is) c.requires.terminal

pub ask_each-requires-clause-asked : goal.ask_each-requires-clause-asked
ask_each-requires-clause-asked c =
    let s = c.self.inside in
    let there = subst (λ (k : Kept). c.args.device < length k.core.channels) (sym c.self.view_is) (bytes-there c.args.self.now.core c.args.device c.requires.terminal) in
    rw (c.as_slice.ensures.value, c.as_slice-formats.ensures.value, c.as_slice-channels.ensures.value)
    (s.channels.items, c.self.invariant.3, comes-in s.channels.items c.add_at-kept.new.channels.items c.args.device c.args.text.now c.add_at-kept.result there c.add_at-kept.ensures.waiting)

pub ask_each-requires-clause-listening : goal.ask_each-requires-clause-listening
ask_each-requires-clause-listening c =
    let s = c.self.inside in
    rw (c.as_slice.ensures.value, c.as_slice-2.ensures.value, c.as_slice-channels.ensures.value)
    (subst (λ n. AreListening n s.offers.items s.listening.items)
    (sym (added-length s.channels.items c.add_at-kept.new.channels.items c.args.device _ c.add_at-kept.result c.add_at-kept.ensures.waiting))
    c.self.invariant.4)

pub invariant_of-self : goal.invariant_of-self
invariant_of-self c =
    let s = c.self.inside in (
      c.self.invariant.0,
      c.self.invariant.1,
      c.self.invariant.2,
      rw (c.as_slice.ensures.value, c.as_slice-formats.ensures.value, c.as_slice-channels.ensures.value) at c.ask_each.ensures,
      subst (λ n. AreListening n s.offers.items s.listening.items)
          (sym (added-length s.channels.items c.add_at-kept.new.channels.items c.args.device _ c.add_at-kept.result c.add_at-kept.ensures.waiting))
          c.self.invariant.4,
    )

pub returns-clause-waiting : goal.returns-clause-waiting
returns-clause-waiting c =
    let k = c.args.self.now in
    let is = subst (λ (x : Kept). c.add_at-kept.new.channels.items ≡ (if c.add_at-kept.result then
    slice_set x.core.channels c.args.device (Bytes (bytes_at x.core c.args.device ++ c.args.text.now)) else x.core.channels))
    c.self.view_is c.add_at-kept.ensures.waiting in
    grind (arith, added-at k c.args.device c.args.text.now c.add_at-kept.result c.add_at-kept.new.channels.items is, c.self.view_is)
