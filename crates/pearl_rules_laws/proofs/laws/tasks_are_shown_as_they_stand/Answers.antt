use Rattle.pearl_rules_laws.proofs.Standing.{dormant_shown, suspended_shown, blocked_shown, running_shown, runnable_shown}
use Rattle.pearl_rules_laws.proofs.laws.tasks_are_shown_as_they_stand.Goals as goal

pub returns-clause-dormant : goal.returns-clause-dormant
returns-clause-dormant c = dormant_shown

pub returns-clause-suspended : goal.returns-clause-suspended
returns-clause-suspended c = suspended_shown

pub returns-clause-blocked : goal.returns-clause-blocked
returns-clause-blocked c = blocked_shown

pub returns-clause-running : goal.returns-clause-running
returns-clause-running c = running_shown

pub returns-clause-runnable : goal.returns-clause-runnable
returns-clause-runnable c = runnable_shown
