use Rattle.pearl_journal.proofs.CutLaws.{clock_again}
use Rattle.pearl_journal.proofs.laws.runs_have_one_clock.Goals as goal

pub returns : goal.returns
returns c = clock_again
