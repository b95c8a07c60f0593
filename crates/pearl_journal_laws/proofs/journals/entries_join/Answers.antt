use Rattle.pearl_journal_laws.proofs.Joining.{entries_joined}
use Rattle.pearl_journal_laws.proofs.journals.entries_join.Goals as goal

pub returns : goal.returns
returns c = entries_joined
