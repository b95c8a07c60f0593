use Rattle.pearl_rules.proofs.FirstStarts.{first_starts}
use Rattle.pearl_rules.proofs.RunLaws.{opens_at_start, opens_with}
use Rattle.pearl_rules.proofs.laws.opens_with.Goals as goal

pub returns-clause-at_start : goal.returns-clause-at_start
returns-clause-at_start c = opens_at_start

pub returns-clause-later : goal.returns-clause-later
returns-clause-later c = opens_with

pub returns-clause-main : goal.returns-clause-main
returns-clause-main c = first_starts
