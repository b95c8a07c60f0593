use Rattle.pearl_journal.proofs.MeaningLaws.{comments_skipped, gaps_skipped, meaning-long}
use Rattle.pearl_journal.proofs.laws.lines_are_skipped.Goals as goal

pub returns : goal.returns
returns c = record { empty = gaps_skipped; comment = comments_skipped; long = meaning-long }
