use Rattle.pearl_rules_laws.proofs.Doing.{starts_named, starts_declared}
use Rattle.pearl_rules_laws.proofs.laws.starts_give_priorities.Goals as goal

pub returns-clause-named : goal.returns-clause-named
returns-clause-named c = starts_named

pub returns-clause-declared : goal.returns-clause-declared
returns-clause-declared c = starts_declared
