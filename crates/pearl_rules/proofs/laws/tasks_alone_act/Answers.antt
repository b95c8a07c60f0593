use Rattle.pearl_rules.proofs.ActedLaws.{effect-last, turned-last, millisecond-last, arrived-last}
use Rattle.pearl_rules.proofs.laws.tasks_alone_act.Goals as goal

pub returns-clause-opens : goal.returns-clause-opens
returns-clause-opens c = λ setup. tt

pub returns-clause-acts : goal.returns-clause-acts
returns-clause-acts c = effect-last

pub returns-clause-turns : goal.returns-clause-turns
returns-clause-turns c = turned-last

pub returns-clause-passes : goal.returns-clause-passes
returns-clause-passes c = millisecond-last

pub returns-clause-arrives : goal.returns-clause-arrives
returns-clause-arrives c = arrived-last
