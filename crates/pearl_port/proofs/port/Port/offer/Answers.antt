use Rattle.std.proofs.Common.{length}
use Rattle.std.specs.Result.{is_ok}
use Rattle.pearl_port.proofs.Rooms.{full}
use Rattle.pearl_port.proofs.port.Port.offer.Goals as goal

pub returns-clause-full : goal.returns-clause-full
returns-clause-full g c =
    let waiting = c.self.inside.waiting in
    let fits = c.try_push_back.ensures.variant in
    rw (c.is_ok.ensures.value, ← c.self.view_is)
    (full (is_ok c.try_push_back.result) (length waiting.items) waiting.capacity fits.0 fits.1 c.self.invariant)
