use Rattle.pearl_journal.proofs.MeaningLaws.{later_blanks_free}
use Rattle.pearl_journal.proofs.laws.later_blanks_are_free.Goals as goal

pub returns : goal.returns
returns c = later_blanks_free
