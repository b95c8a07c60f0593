use Rattle.pearl_journal_laws.proofs.StepLaws.{other_none}
use Rattle.pearl_journal_laws.proofs.lines.other_words_begin_no_entry.Goals as goal

pub returns : goal.returns
returns c = other_none
