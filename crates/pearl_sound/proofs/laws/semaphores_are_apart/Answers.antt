use Rattle.pearl_sound.proofs.SemaphoresApart.{semaphores_apart}
use Rattle.pearl_sound.proofs.laws.semaphores_are_apart.Goals as goal

pub returns : goal.returns
returns c = semaphores_apart
