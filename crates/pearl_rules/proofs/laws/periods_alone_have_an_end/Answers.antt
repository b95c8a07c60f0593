use Rattle.pearl_rules.proofs.EndingPlans.{opening-ends, effect-plan_ends, turned-plan_ends, millisecond-plan_ends, arrived-plan_ends}
use Rattle.pearl_rules.proofs.laws.periods_alone_have_an_end.Goals as goal

pub returns-clause-opens : goal.returns-clause-opens
returns-clause-opens c = opening-ends

pub returns-clause-acts : goal.returns-clause-acts
returns-clause-acts c = effect-plan_ends

pub returns-clause-turns : goal.returns-clause-turns
returns-clause-turns c = turned-plan_ends

pub returns-clause-passes : goal.returns-clause-passes
returns-clause-passes c = millisecond-plan_ends

pub returns-clause-arrives : goal.returns-clause-arrives
returns-clause-arrives c = arrived-plan_ends
