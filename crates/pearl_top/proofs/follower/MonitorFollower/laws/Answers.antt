use Rattle.pearl_top.proofs.WatchRuns.{monitor_in_turn, monitor_run}
use Rattle.pearl_top.proofs.follower.MonitorFollower.laws.Goals as goal

pub returns-clause-in_turn : goal.returns-clause-in_turn
returns-clause-in_turn c = monitor_in_turn

pub returns-clause-run : goal.returns-clause-run
returns-clause-run c = monitor_run
