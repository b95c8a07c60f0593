use Rattle.pearl_sound.proofs.ModuleCounts.{semaphore_there, task_there}
use Rattle.pearl_sound.proofs.laws.module_numbers_are_there.Goals as goal

pub returns : goal.returns
returns c = λ tree devices procedures. (semaphore_there tree devices procedures, task_there tree devices procedures)
