use Rattle.pearl_rules.proofs.TaskLaws.{suspend_suspends, continue_continues, dormant_suspended, dormant_continued, suspended_waits}
use Rattle.pearl_rules.proofs.laws.suspended_tasks_wait.Goals as goal

pub returns-clause-suspends : goal.returns-clause-suspends
returns-clause-suspends c = suspend_suspends

pub returns-clause-continues : goal.returns-clause-continues
returns-clause-continues c = continue_continues

pub returns-clause-dormant_suspended : goal.returns-clause-dormant_suspended
returns-clause-dormant_suspended c = dormant_suspended

pub returns-clause-dormant_continued : goal.returns-clause-dormant_continued
returns-clause-dormant_continued c = dormant_continued

pub returns-clause-waits : goal.returns-clause-waits
returns-clause-waits c = suspended_waits
