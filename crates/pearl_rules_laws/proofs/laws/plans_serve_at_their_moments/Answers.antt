use Rattle.pearl_rules_laws.proofs.Planning.{plan_serves, waiting_serves, begun_serves}
use Rattle.pearl_rules_laws.proofs.laws.plans_serve_at_their_moments.Goals as goal

pub returns-clause-serves : goal.returns-clause-serves
returns-clause-serves c = plan_serves

pub returns-clause-waits : goal.returns-clause-waits
returns-clause-waits c = waiting_serves

pub returns-clause-begins : goal.returns-clause-begins
returns-clause-begins c = begun_serves
