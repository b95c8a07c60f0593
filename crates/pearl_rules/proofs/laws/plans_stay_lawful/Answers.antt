use Rattle.pearl_rules.proofs.UrgencyLaws.{opening-plans, effect-plans, turned-plans, millisecond-plans, arrived-plans}
use Rattle.pearl_rules.proofs.laws.plans_stay_lawful.Goals as goal

pub returns-clause-opens : goal.returns-clause-opens
returns-clause-opens c = opening-plans

pub returns-clause-acts : goal.returns-clause-acts
returns-clause-acts c = effect-plans

pub returns-clause-turns : goal.returns-clause-turns
returns-clause-turns c = turned-plans

pub returns-clause-passes : goal.returns-clause-passes
returns-clause-passes c = millisecond-plans

pub returns-clause-arrives : goal.returns-clause-arrives
returns-clause-arrives c = arrived-plans
