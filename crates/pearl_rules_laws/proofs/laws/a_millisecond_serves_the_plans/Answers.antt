use Rattle.pearl_rules_laws.proofs.Rows.{millisecond_is}
use Rattle.pearl_rules_laws.proofs.laws.a_millisecond_serves_the_plans.Goals as goal

pub returns : goal.returns
returns c = millisecond_is
