use Rattle.pearl_faithful.proofs.Runs.{faithful_programs, same_actions}
use Rattle.pearl_faithful.proofs.laws.faithful_programs.Goals as goal

pub returns-clause-faithful : goal.returns-clause-faithful
returns-clause-faithful c = faithful_programs c.tables_are_lawful.ensures c.tasks_stand.ensures.alone c.tasks_stand.ensures.soon

pub returns-clause-actions : goal.returns-clause-actions
returns-clause-actions c = same_actions c.tables_are_lawful.ensures c.tasks_stand.ensures.alone c.tasks_stand.ensures.soon
