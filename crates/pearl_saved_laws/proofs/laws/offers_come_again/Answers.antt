use Rattle.pearl_saved_laws.proofs.Offering.{offers_come_again}
use Rattle.pearl_saved_laws.proofs.laws.offers_come_again.Goals as goal

pub returns : goal.returns
returns c = offers_come_again c.states_come_back.ensures c.offers_are_those_of_the_next_row.ensures
