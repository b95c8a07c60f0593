use Rattle.pearl_journal.proofs.CutLaws.{pieces_entries, pieces_later, pieces_same}
use Rattle.pearl_journal.proofs.laws.cuts_change_nothing.Goals as goal

pub returns : goal.returns
returns c = record { entries = pieces_entries; same = pieces_same; goes_on = pieces_later }
