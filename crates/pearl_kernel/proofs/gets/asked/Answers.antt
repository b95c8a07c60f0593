use Rattle.std.specs.Prelude.{slice_get}
use Rattle.pearl_rules.specs.Devices.{bytes_in}
use Rattle.pearl_exchange.specs.Offers.{action_of}
use Rattle.pearl_kernel.proofs.Getting.{asked-of-get, goes-on}
use Rattle.pearl_kernel.proofs.gets.asked.Goals as goal

pub go_on-requires-clause-goes_on : goal.go_on-requires-clause-goes_on
go_on-requires-clause-goes_on c =
    let old = c.requires.asked.0 in
    let offer = c.in-Some-offer.offer.now in
    let before = asked-of-get c.args.formats.now old c.args.device c.in-Some-format_at.format offer.kinds (action_of offer) c.args.bid.now c.args.from
    c.in-Some-offer.ensures c.in-Some-format_at.ensures c.requires.asked.1 in
    rw (c.items_of-items.ensures, c.as_slice-kinds.ensures.value, c.bytes_of.ensures.bytes)
    (c.start_from.ensures _ offer.kinds.items (bytes_in (slice_get c.args.channels.now c.args.device))
    (λ e. goes-on _ offer.kinds.items (bytes_in (slice_get old c.args.device)) (bytes_in (slice_get c.args.channels.now c.args.device)) c.args.from
    (c.requires.asked.2.here e) before))
