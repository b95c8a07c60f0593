use Rattle.pearl_rules.proofs.EndLaws.{one_end}
use Rattle.pearl_rules.proofs.laws.ends_once.Goals as goal

pub returns : goal.returns
returns c = one_end
