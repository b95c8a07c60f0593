use Rattle.pearl_sound.proofs.NamedSemaphores.{semaphores_named}
use Rattle.pearl_sound.proofs.laws.semaphores_are_named.Goals as goal

pub returns : goal.returns
returns c = semaphores_named
