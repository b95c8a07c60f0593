use Rattle.pearl_rules.proofs.CountLaws.{request_possible, request_lowers}
use Rattle.pearl_rules.proofs.laws.requests_lower_all_or_none.Goals as goal

pub returns-clause-possible : goal.returns-clause-possible
returns-clause-possible c = request_possible

pub returns-clause-lowers : goal.returns-clause-lowers
returns-clause-lowers c = request_lowers
