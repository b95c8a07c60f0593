use Rattle.pearl_journal_laws.proofs.Returns.{second_long, second_refused, second_skipped}
use Rattle.pearl_journal_laws.proofs.lines.one_return_is_dropped.Goals as goal

pub returns-clause-form : goal.returns-clause-form
returns-clause-form c = second_refused

pub returns-clause-comment : goal.returns-clause-comment
returns-clause-comment c = second_skipped

pub returns-clause-long : goal.returns-clause-long
returns-clause-long c = second_long
