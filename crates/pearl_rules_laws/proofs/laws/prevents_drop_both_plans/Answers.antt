use Rattle.pearl_rules_laws.proofs.Planning.{prevent_drops}
use Rattle.pearl_rules_laws.proofs.laws.prevents_drop_both_plans.Goals as goal

pub returns : goal.returns
returns c = prevent_drops
