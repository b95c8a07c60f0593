use Rattle.pearl_top.proofs.MachineRuns.{machine_in_turn, machine_run}
use Rattle.pearl_top.proofs.follower.MachineFollower.laws.Goals as goal

pub returns-clause-in_turn : goal.returns-clause-in_turn
returns-clause-in_turn c = machine_in_turn

pub returns-clause-run : goal.returns-clause-run
returns-clause-run c = machine_run
