use Rattle.pearl_journal_laws.proofs.Joining.{ended_joined, last_ends, lines_joined}
use Rattle.pearl_journal_laws.proofs.journals.journals_join.Goals as goal

pub returns-clause-last : goal.returns-clause-last
returns-clause-last c = last_ends

pub returns-clause-lines : goal.returns-clause-lines
returns-clause-lines c = lines_joined

pub returns-clause-ended : goal.returns-clause-ended
returns-clause-ended c = ended_joined
