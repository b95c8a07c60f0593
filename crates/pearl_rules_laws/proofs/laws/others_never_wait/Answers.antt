use Rattle.pearl_rules_laws.proofs.Standing.{others_possible}
use Rattle.pearl_rules_laws.proofs.laws.others_never_wait.Goals as goal

pub returns : goal.returns
returns c = others_possible
