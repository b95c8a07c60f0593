use Rattle.pearl_instructions_laws.proofs.InBounds.{offers_are_next}
use Rattle.pearl_instructions_laws.proofs.laws.offers_are_those_of_the_next_row.Goals as goal

pub returns : goal.returns
returns c = offers_are_next
