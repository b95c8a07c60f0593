use Rattle.pearl_rules_laws.proofs.Planning.{written_waits, plan_waits}
use Rattle.pearl_rules_laws.proofs.schedules.plans_wait_for_their_interrupt.Goals as goal

pub returns-clause-written : goal.returns-clause-written
returns-clause-written c = λ core interrupt start repeat. written_waits interrupt start

pub returns-clause-waits : goal.returns-clause-waits
returns-clause-waits c = λ interrupt plan. plan_waits interrupt plan.when
