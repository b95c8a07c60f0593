use Rattle.pearl_rules_laws.proofs.Picking.{run_acts_on, run_leaves}
use Rattle.pearl_rules_laws.proofs.runs.runs_are_actions.Goals as goal

pub returns-clause-acts : goal.returns-clause-acts
returns-clause-acts c = run_acts_on

pub returns-clause-leaves : goal.returns-clause-leaves
returns-clause-leaves c = run_leaves
