use Rattle.pearl_journal_laws.proofs.ArrivalLaws.{part_missing}
use Rattle.pearl_journal_laws.proofs.lines.no_part_may_be_missing.Goals as goal

pub returns : goal.returns
returns c = part_missing
