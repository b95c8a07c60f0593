use Rattle.pearl_rules.proofs.RunLaws.{last_tells}
use Rattle.pearl_rules.proofs.laws.last_tells.Goals as goal

pub returns : goal.returns
returns c = last_tells
