use Rattle.pearl_rules.proofs.Faithful.{faithful}
use Rattle.pearl_rules.proofs.laws.faithful_by_task.Goals as goal

pub returns : goal.returns
returns g c = λ setup slots devices alone soon. faithful g.S.Code.offer g.S.Code.engine g.S.Code.Stands g.S.Code.weight setup g.S.Code.rows slots devices alone soon
