use Rattle.pearl_journal.proofs.CutLaws.{long_refused, short_whole}
use Rattle.pearl_journal.proofs.laws.long_lines_are_refused_whole.Goals as goal

pub returns : goal.returns
returns c = record { refused = long_refused; whole = short_whole }
