use Rattle.std.proofs.Common.{refl}
use Rattle.pearl_rules_laws.proofs.Planning.{planned_at_this_time}
use Rattle.pearl_rules_laws.proofs.schedules.plans_of_one_meaning_are_the_same.Goals as goal

pub returns-clause-no_time : goal.returns-clause-no_time
returns-clause-no_time c = λ core repeat. refl

pub returns-clause-this_time : goal.returns-clause-this_time
returns-clause-this_time c = planned_at_this_time

pub returns-clause-other_time : goal.returns-clause-other_time
returns-clause-other_time c = λ time repeat. refl

pub returns-clause-other_series : goal.returns-clause-other_series
returns-clause-other_series c = λ core time repeat. refl
