use Rattle.pearl_solo.proofs.OfferRows.{stops_by}
use Rattle.pearl_solo.proofs.offers.stops.Goals as goal

pub returns : goal.returns
returns c = stops_by c.args.stack.now c.args.what c.args.into.now c.requires
