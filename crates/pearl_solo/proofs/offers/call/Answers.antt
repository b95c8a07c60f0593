use Rattle.std.proofs.Common.{refl, slice_get}
use Rattle.pearl_solo.proofs.SendRows.{call_offers}
use Rattle.pearl_solo.proofs.offers.call.Goals as goal

pub returns : goal.returns
returns c =
    let at = call_offers c.args.stack.now.frames c.args.p c.args.stack.now.room (slice_get c.args.code.now.procedures c.args.p) c.requires.ready in
    (at.0, at.1, refl)
