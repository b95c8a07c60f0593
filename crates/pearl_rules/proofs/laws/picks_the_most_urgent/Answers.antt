use Rattle.pearl_rules.proofs.PickLaws.{picked_by, picked_none_by, is_picked_by, picked, picked_none, is_picked}
use Rattle.pearl_rules.proofs.laws.picks_the_most_urgent.Goals as goal

pub returns-clause-picked : goal.returns-clause-picked
returns-clause-picked c = λ core offers t. (picked core offers t, is_picked core offers t)

pub returns-clause-none : goal.returns-clause-none
returns-clause-none c = picked_none

pub returns-clause-picked_by : goal.returns-clause-picked_by
returns-clause-picked_by c = λ core possible t. (picked_by core possible t, is_picked_by core possible t)

pub returns-clause-none_by : goal.returns-clause-none_by
returns-clause-none_by c = picked_none_by
