use Rattle.pearl_journal.proofs.MeaningLaws.{blanks_free}
use Rattle.pearl_journal.proofs.laws.blanks_are_free.Goals as goal

pub returns : goal.returns
returns c = blanks_free
