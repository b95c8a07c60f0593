use Rattle.pearl_watch.proofs.MarkLines.{by_marks}
use Rattle.pearl_watch.proofs.laws.writes_mark_by_mark.Goals as goal

pub returns : goal.returns
returns g c = λ engine start names watched steps. by_marks engine names watched start steps
