use Rattle.pearl_top.proofs.MachineRuns.{cut_off, tells_opened}
use Rattle.pearl_top.proofs.TakenLaws.{on_err, on_ok}
use Rattle.pearl_top.proofs.follower.MachineFollower.open.Goals as goal

pub returns-clause-goes : goal.returns-clause-goes
returns-clause-goes g c = on_ok c.begin.result _ _ (tells_opened c.args.self.now c.begin.new.self c.begin.ensures.same) c.begin.ensures.all

pub returns-clause-err : goal.returns-clause-err
returns-clause-err g c = on_err c.begin.result _ _ (cut_off _ _ _ _ _) c.begin.ensures.err

pub returns-clause-ok : goal.returns-clause-ok
returns-clause-ok g c = c.begin.ensures.ok

pub returns-clause-rests : goal.returns-clause-rests
returns-clause-rests g c = c.begin.ensures.all

pub returns-clause-cause : goal.returns-clause-cause
returns-clause-cause g c = c.begin.ensures.cause

pub returns-clause-later : goal.returns-clause-later
returns-clause-later g c = c.begin.ensures.later
