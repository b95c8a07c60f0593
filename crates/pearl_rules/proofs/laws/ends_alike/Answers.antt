use Rattle.pearl_rules.proofs.EndLaws.{ends_alike}
use Rattle.pearl_rules.proofs.laws.ends_alike.Goals as goal

pub returns : goal.returns
returns g c = λ offer engine. ends_alike offer engine
