-- That expressions have one stop is a lemma.
use Rattle.pearl_parse_expr.proofs.OneStop.{one_stop}
use Rattle.pearl_parse_expr.proofs.laws.one_stop.Goals as goal

pub returns : goal.returns
returns c = one_stop
