use Rattle.pearl_instructions.proofs.Sound.{row_offers}
use Rattle.pearl_instructions.proofs.laws.offers_name_what_is_there.Goals as goal

pub returns : goal.returns
returns c = row_offers
