use Rattle.pearl_solo.proofs.OfferRows.{acts_by}
use Rattle.pearl_solo.proofs.offers.acts.Goals as goal

pub returns : goal.returns
returns c = acts_by c.args.stack.now c.args.what c.args.into.now c.requires
