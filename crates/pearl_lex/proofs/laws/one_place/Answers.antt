use Rattle.pearl_lex.proofs.Unique.{one_place}
use Rattle.pearl_lex.proofs.laws.one_place.Goals as goal

pub returns : goal.returns
returns c = one_place
