use Rattle.pearl_top.proofs.ResumedRuns.{nothing_told, resumed_in_turn}
use Rattle.pearl_top.proofs.TakenLaws.{takes_none}
use Rattle.pearl_top.proofs.resumed.ResumedFollower.open.Goals as goal

pub returns-clause-ok : goal.returns-clause-ok
returns-clause-ok g c = takes_none (g.K.Sink.taken c.args._sink.now)

pub returns-clause-goes : goal.returns-clause-goes
returns-clause-goes g c = resumed_in_turn.nothing c.args.self.now

pub returns-clause-rests : goal.returns-clause-rests
returns-clause-rests g c = nothing_told c.args.self.now c.requires
