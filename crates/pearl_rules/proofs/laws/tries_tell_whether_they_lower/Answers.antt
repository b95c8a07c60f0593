use Rattle.pearl_rules.proofs.CountLaws.{try_lowers, try_fails}
use Rattle.pearl_rules.proofs.laws.tries_tell_whether_they_lower.Goals as goal

pub returns-clause-lowers : goal.returns-clause-lowers
returns-clause-lowers c = try_lowers

pub returns-clause-fails : goal.returns-clause-fails
returns-clause-fails c = try_fails
