use Rattle.pearl_rules_laws.proofs.Planning.{resume_later, resume_at_once, after_no_time, at_this_time}
use Rattle.pearl_rules_laws.proofs.laws.resumed_tasks_go_on.Goals as goal

pub returns-clause-later : goal.returns-clause-later
returns-clause-later c = resume_later

pub returns-clause-at_once : goal.returns-clause-at_once
returns-clause-at_once c = resume_at_once

pub returns-clause-after_no_time : goal.returns-clause-after_no_time
returns-clause-after_no_time c = after_no_time

pub returns-clause-at_this_time : goal.returns-clause-at_this_time
returns-clause-at_this_time c = at_this_time
