use Rattle.pearl_rules_laws.proofs.Marks.{run_acts, run_done, run_idle}
use Rattle.pearl_rules_laws.proofs.laws.runs_pick_as_often_as_they_say.Goals as goal

pub returns-clause-acts : goal.returns-clause-acts
returns-clause-acts c = run_acts

pub returns-clause-done : goal.returns-clause-done
returns-clause-done c = run_done

pub returns-clause-idle : goal.returns-clause-idle
returns-clause-idle c = run_idle
