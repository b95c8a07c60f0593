use Rattle.pearl_gen_stmt.proofs.Tasks.{tasks_come}
use Rattle.pearl_gen_stmt.proofs.laws.tasks_come.Goals as goal

pub returns : goal.returns
returns c = tasks_come
