use Rattle.pearl_rules.proofs.TimeLaws.{opening-times, effect-times, turned-times, millisecond-times, arrived-times}
use Rattle.pearl_rules.proofs.laws.plans_have_their_series.Goals as goal

pub returns-clause-opens : goal.returns-clause-opens
returns-clause-opens c = opening-times

pub returns-clause-acts : goal.returns-clause-acts
returns-clause-acts c = effect-times

pub returns-clause-turns : goal.returns-clause-turns
returns-clause-turns c = turned-times

pub returns-clause-passes : goal.returns-clause-passes
returns-clause-passes c = millisecond-times

pub returns-clause-arrives : goal.returns-clause-arrives
returns-clause-arrives c = arrived-times
