use Rattle.pearl_journal_laws.proofs.Looking.{goes_on}
use Rattle.pearl_journal_laws.proofs.journals.journals_go_on.Goals as goal

pub returns : goal.returns
returns c = goes_on
