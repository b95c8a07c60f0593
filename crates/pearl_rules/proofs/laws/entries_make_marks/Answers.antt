use Rattle.std.proofs.Common.{refl}
use Rattle.pearl_rules.proofs.MarkLaws.{run_acts, no_run, tick_passes, pass_passes, one_mark}
use Rattle.pearl_rules.proofs.laws.entries_make_marks.Goals as goal

pub returns-clause-run : goal.returns-clause-run
returns-clause-run c = run_acts

pub returns-clause-idle : goal.returns-clause-idle
returns-clause-idle c = λ n rest. refl

pub returns-clause-no_run : goal.returns-clause-no_run
returns-clause-no_run c = no_run

pub returns-clause-tick : goal.returns-clause-tick
returns-clause-tick c = tick_passes

pub returns-clause-no_tick : goal.returns-clause-no_tick
returns-clause-no_tick c = λ picked rest. refl

pub returns-clause-pass : goal.returns-clause-pass
returns-clause-pass c = pass_passes

pub returns-clause-no_pass : goal.returns-clause-no_pass
returns-clause-no_pass c = λ picked picks rest. refl

pub returns-clause-turn : goal.returns-clause-turn
returns-clause-turn c = λ picked t rest. refl

pub returns-clause-state : goal.returns-clause-state
returns-clause-state c = λ picked rest. refl

pub returns-clause-other : goal.returns-clause-other
returns-clause-other c = one_mark

pub returns-clause-end : goal.returns-clause-end
returns-clause-end c = λ picked. refl
