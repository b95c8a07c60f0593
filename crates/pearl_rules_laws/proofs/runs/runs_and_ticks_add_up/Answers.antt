use Rattle.pearl_rules_laws.proofs.Alike.{runs_add, ticks_add, no_run_does, no_tick_does}
use Rattle.pearl_rules_laws.proofs.runs.runs_and_ticks_add_up.Goals as goal

pub returns-clause-runs : goal.returns-clause-runs
returns-clause-runs c = runs_add

pub returns-clause-ticks : goal.returns-clause-ticks
returns-clause-ticks c = ticks_add

pub returns-clause-no_run : goal.returns-clause-no_run
returns-clause-no_run c = no_run_does

pub returns-clause-no_tick : goal.returns-clause-no_tick
returns-clause-no_tick c = no_tick_does
