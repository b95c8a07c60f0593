use Rattle.pearl_print.proofs.PrintedAgain.{prints_again}
use Rattle.pearl_print.proofs.laws.prints_again.Goals as goal

pub returns : goal.returns
returns c = prints_again
