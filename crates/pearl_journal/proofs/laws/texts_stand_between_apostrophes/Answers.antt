use Rattle.pearl_journal.proofs.TextLaws.{quoted_only, quoted_read}
use Rattle.pearl_journal.proofs.laws.texts_stand_between_apostrophes.Goals as goal

pub returns : goal.returns
returns c = record { read = quoted_read; only = quoted_only }
