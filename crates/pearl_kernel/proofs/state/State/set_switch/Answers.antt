use Rattle.std.proofs.Common.{slice_get, sym, subst, length-set}
use Rattle.pearl_kernel.specs.Listening.{AreListening}
use Rattle.pearl_kernel.specs.Channels.{HasSwitch}
use Rattle.pearl_kernel.specs.Kept.{Kept}
use Rattle.pearl_kernel.proofs.Getting.{asked-still, switch-same}
use Rattle.pearl_kernel.proofs.state.State.set_switch.Goals as goal

pub invariant_of-self : goal.invariant_of-self
invariant_of-self c =
    let s = c.self.inside in
    let has = subst (λ (k : Kept). HasSwitch (slice_get k.core.channels c.args.device)) (sym c.self.view_is) c.requires in (
      c.self.invariant.0,
      c.self.invariant.1,
      c.self.invariant.2,
      asked-still s.offers.items s.formats.items s.channels.items _ s.progress.items
          (switch-same s.channels.items c.args.device c.switch.result c.args.enabled c.switch.ensures has) c.self.invariant.3,
      subst (λ n. AreListening n s.offers.items s.listening.items)
          (sym (length-set s.channels.items c.args.device c.switch.result)) c.self.invariant.4,
    )
