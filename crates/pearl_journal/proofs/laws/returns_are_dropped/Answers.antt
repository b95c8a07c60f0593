use Rattle.pearl_journal.proofs.MeaningLaws.{returns_dropped}
use Rattle.pearl_journal.proofs.laws.returns_are_dropped.Goals as goal

pub returns : goal.returns
returns c = returns_dropped
