use Rattle.std.proofs.Common.{drop, length, slice_get, sym, ap, subst, ◌∙◌, length-set}
use Rattle.pearl_rules.specs.Core.{Bytes}
use Rattle.pearl_rules.specs.Devices.{bytes_in}
use Rattle.pearl_kernel.specs.Channels.{HasBytes}
use Rattle.pearl_kernel.specs.Kept.{Kept}
use Rattle.pearl_kernel.specs.Listening.{AreListening}
use Rattle.pearl_kernel.proofs.Getting.{comes-anew}
use Rattle.pearl_kernel.proofs.state.State.drop_bytes.Goals as goal

pub drop_at-requires : goal.drop_at-requires
drop_at-requires c = subst (λ (k : Kept). HasBytes (slice_get k.core.channels c.args.device)) (sym c.self.view_is) c.requires

pub ask_each-requires-clause-asked : goal.ask_each-requires-clause-asked
ask_each-requires-clause-asked c =
    let s = c.self.inside in
    rw (c.as_slice.ensures.value, c.as_slice-formats.ensures.value, c.as_slice-channels.ensures.value, c.drop_at.ensures)
    (s.channels.items, c.self.invariant.3, comes-anew s.channels.items c.args.device (Bytes (drop c.args.used (bytes_in (slice_get s.channels.items c.args.device)))))

pub ask_each-requires-clause-listening : goal.ask_each-requires-clause-listening
ask_each-requires-clause-listening c =
    let s = c.self.inside in
    rw (c.as_slice.ensures.value, c.as_slice-2.ensures.value, c.as_slice-channels.ensures.value)
    (subst (λ n. AreListening n s.offers.items s.listening.items)
    (sym (ap length c.drop_at.ensures ∙ length-set s.channels.items c.args.device _)) c.self.invariant.4)

pub invariant_of-self : goal.invariant_of-self
invariant_of-self c =
    let s = c.self.inside in (
      c.self.invariant.0,
      c.self.invariant.1,
      c.self.invariant.2,
      rw (c.as_slice.ensures.value, c.as_slice-formats.ensures.value, c.as_slice-channels.ensures.value) at c.ask_each.ensures,
      subst (λ n. AreListening n s.offers.items s.listening.items)
          (sym (ap length c.drop_at.ensures ∙ length-set s.channels.items c.args.device _)) c.self.invariant.4,
    )
