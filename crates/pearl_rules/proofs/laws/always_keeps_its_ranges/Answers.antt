use Rattle.std.proofs.Common.{length}
use Rattle.pearl_rules.proofs.Faithful.{faithful}
use Rattle.pearl_rules.proofs.RunKeeps.{cores_of, source_cores_of}
use Rattle.pearl_rules.proofs.laws.always_keeps_its_ranges.Goals as goal

pub returns-clause-machine : goal.returns-clause-machine
returns-clause-machine g c = λ setup is alone es fits n. cores_of g.S.Code.offer g.S.Code.engine g.S.Code.Stands setup is alone es fits n

pub returns-clause-source : goal.returns-clause-source
returns-clause-source g c = λ setup is alone soon es fits m comes.
    source_cores_of g.S.Code.offer g.S.Code.engine g.S.Code.Stands setup (length setup.tasks) g.S.Code.rows is alone
    (faithful g.S.Code.offer g.S.Code.engine g.S.Code.Stands g.S.Code.weight setup g.S.Code.rows is.slots is.devices alone soon) es fits m comes
