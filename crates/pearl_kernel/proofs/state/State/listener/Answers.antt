use Rattle.std.proofs.Common.{MatchOption, length, subst}
use Rattle.pearl_kernel.specs.Kept.{Kept}
use Rattle.pearl_kernel.specs.Listening.{IsNextListener, NoneListens}
use Rattle.pearl_kernel.proofs.state.State.listener.Goals as goal

pub returns : goal.returns
returns c =
    let s = c.self.inside in
    let next = c.next_at.ensures (length s.channels.items) s.offers.items
    (rw c.as_slice.ensures.value c.self.invariant.4) in
    subst (λ (k : Kept). MatchOption c.next_at.result (NoneListens k.offers c.args.device c.args.after)
    (IsNextListener k.offers c.args.device c.args.after)) c.self.view_is next
