use Rattle.pearl_rules.proofs.EndLaws.{goes_alike}
use Rattle.pearl_rules.proofs.laws.begins_alike.Goals as goal

pub returns : goal.returns
returns c = goes_alike
