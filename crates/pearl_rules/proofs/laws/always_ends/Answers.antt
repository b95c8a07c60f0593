use Rattle.pearl_rules.proofs.RunLaws.{source_ends}
use Rattle.pearl_rules.proofs.laws.always_ends.Goals as goal

pub returns : goal.returns
returns c = source_ends
