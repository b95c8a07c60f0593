use Rattle.pearl_watch.proofs.OneMark.{comes_behind, is_alone, same_run}
use Rattle.pearl_watch.proofs.laws.hands_over_mark_by_mark.Goals as goal

pub returns-clause-same : goal.returns-clause-same
returns-clause-same g c = λ engine h n. same_run engine h n

pub returns-clause-alone : goal.returns-clause-alone
returns-clause-alone g c = λ picked es coming e. is_alone picked es coming e

pub returns-clause-behind : goal.returns-clause-behind
returns-clause-behind g c = λ picked es more. comes_behind picked es more
