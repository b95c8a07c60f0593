use Rattle.pearl_rules.proofs.Faithful.{ends_soon}
use Rattle.pearl_rules.proofs.laws.ends_soon.Goals as goal

pub returns : goal.returns
returns g c = λ setup slots devices alone soon es fits m comes none. ends_soon g.S.Code.offer g.S.Code.engine g.S.Code.Stands g.S.Code.weight setup g.S.Code.rows slots devices alone soon es fits m comes none
