use Rattle.pearl_rules.proofs.PickLaws.{pick-same_by, states-same_by, pick-offers, states-offers}
use Rattle.pearl_rules.proofs.laws.picks_alike.Goals as goal

pub returns-clause-pick : goal.returns-clause-pick
returns-clause-pick c = pick-offers

pub returns-clause-states : goal.returns-clause-states
returns-clause-states c = states-offers

pub returns-clause-pick_by : goal.returns-clause-pick_by
returns-clause-pick_by c = pick-same_by

pub returns-clause-states_by : goal.returns-clause-states_by
returns-clause-states_by c = states-same_by
