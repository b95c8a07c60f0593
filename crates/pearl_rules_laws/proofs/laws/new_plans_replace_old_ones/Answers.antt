use Rattle.pearl_rules_laws.proofs.Planning.{activate_plans, continue_plans, dormant_continue}
use Rattle.pearl_rules_laws.proofs.laws.new_plans_replace_old_ones.Goals as goal

pub returns-clause-starts : goal.returns-clause-starts
returns-clause-starts c = activate_plans

pub returns-clause-goes_on : goal.returns-clause-goes_on
returns-clause-goes_on c = continue_plans

pub returns-clause-dormant : goal.returns-clause-dormant
returns-clause-dormant c = dormant_continue
