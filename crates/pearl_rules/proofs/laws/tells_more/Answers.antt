use Rattle.pearl_rules.proofs.RunLaws.{tells_more}
use Rattle.pearl_rules.proofs.laws.tells_more.Goals as goal

pub returns : goal.returns
returns c = tells_more
