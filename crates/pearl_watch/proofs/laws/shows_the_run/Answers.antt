use Rattle.pearl_watch.proofs.Whole.{whole}
use Rattle.pearl_watch.proofs.laws.shows_the_run.Goals as goal

pub returns : goal.returns
returns c = λ o names es after text watches settled. whole o names es after text watches settled
