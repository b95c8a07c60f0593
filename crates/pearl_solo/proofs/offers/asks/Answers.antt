use Rattle.pearl_solo.proofs.OfferRows.{asks_by}
use Rattle.pearl_solo.proofs.offers.asks.Goals as goal

pub returns : goal.returns
returns c = asks_by c.args.stack.now c.args.what c.args.into.now c.requires
