use Rattle.pearl_rules_laws.proofs.Standing.{eligible_acts}
use Rattle.pearl_rules_laws.proofs.laws.eligible_tasks_can_act.Goals as goal

pub returns : goal.returns
returns c = eligible_acts
