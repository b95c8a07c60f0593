use Rattle.pearl_top.proofs.ResumedRuns.{resumed_in_turn, resumed_run}
use Rattle.pearl_top.proofs.resumed.ResumedFollower.laws.Goals as goal

pub returns-clause-in_turn : goal.returns-clause-in_turn
returns-clause-in_turn c = resumed_in_turn

pub returns-clause-run : goal.returns-clause-run
returns-clause-run c = resumed_run c.restored_runs_end.ensures
