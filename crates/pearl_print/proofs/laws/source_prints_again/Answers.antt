use Rattle.pearl_print.proofs.PrintedAgain.{source_prints_again}
use Rattle.pearl_print.proofs.laws.source_prints_again.Goals as goal

pub returns : goal.returns
returns c = source_prints_again
