use Rattle.pearl_rules.proofs.Faithful.{has_kinds}
use Rattle.pearl_rules.proofs.laws.always_has_kinds.Goals as goal

pub returns : goal.returns
returns g c = λ setup slots devices alone es fits n. has_kinds g.S.Code.offer g.S.Code.engine g.S.Code.Stands setup slots devices alone es fits n
