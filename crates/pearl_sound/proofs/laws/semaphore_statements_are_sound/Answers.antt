use Rattle.pearl_sound.proofs.SemaphoreLists.{semaphore_statement_sound}
use Rattle.pearl_sound.proofs.laws.semaphore_statements_are_sound.Goals as goal

pub returns : goal.returns
returns c = semaphore_statement_sound
