use Rattle.pearl_rules_laws.proofs.Modes.{suspend_marks, continue_marks, suspend_dormant, continue_dormant, terminate_dormant, terminate_none}
use Rattle.pearl_rules_laws.proofs.tasks.marks_of_suspension_keep_plans.Goals as goal

pub returns-clause-suspends : goal.returns-clause-suspends
returns-clause-suspends c = suspend_marks

pub returns-clause-goes_on : goal.returns-clause-goes_on
returns-clause-goes_on c = continue_marks

pub returns-clause-dormant_suspended : goal.returns-clause-dormant_suspended
returns-clause-dormant_suspended c = suspend_dormant

pub returns-clause-dormant_continued : goal.returns-clause-dormant_continued
returns-clause-dormant_continued c = continue_dormant

pub returns-clause-dormant_stopped : goal.returns-clause-dormant_stopped
returns-clause-dormant_stopped c = terminate_dormant

pub returns-clause-none_ends : goal.returns-clause-none_ends
returns-clause-none_ends c = terminate_none
