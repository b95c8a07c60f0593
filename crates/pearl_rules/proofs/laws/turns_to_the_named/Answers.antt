use Rattle.pearl_rules.proofs.PickLaws.{turn_exactly_by, turn_taken_by, turn_next_by, turn_refused_by}
use Rattle.pearl_rules.proofs.PickLaws.{turn_exactly, turn_taken, turn_next, turn_refused}
use Rattle.pearl_rules.proofs.laws.turns_to_the_named.Goals as goal

pub returns-clause-exactly : goal.returns-clause-exactly
returns-clause-exactly c = turn_exactly

pub returns-clause-turns : goal.returns-clause-turns
returns-clause-turns c = turn_taken

pub returns-clause-next : goal.returns-clause-next
returns-clause-next c = turn_next

pub returns-clause-stays : goal.returns-clause-stays
returns-clause-stays c = turn_refused

pub returns-clause-exactly_by : goal.returns-clause-exactly_by
returns-clause-exactly_by c = turn_exactly_by

pub returns-clause-turns_by : goal.returns-clause-turns_by
returns-clause-turns_by c = turn_taken_by

pub returns-clause-next_by : goal.returns-clause-next_by
returns-clause-next_by c = turn_next_by

pub returns-clause-stays_by : goal.returns-clause-stays_by
returns-clause-stays_by c = turn_refused_by
