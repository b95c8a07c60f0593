use Rattle.pearl_value.proofs.Suiting.{suits_both}
use Rattle.pearl_value.proofs.laws.a_test_tells_what_suits.Goals as goal

pub returns : goal.returns
returns c = suits_both
