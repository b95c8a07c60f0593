use Rattle.pearl_instructions.proofs.Stands.{offers_there}
use Rattle.pearl_instructions.proofs.runs.offers_name_what_is_there.Goals as goal

pub returns : goal.returns
returns c = offers_there c.offers_name_what_is_there.ensures
