use Rattle.std.proofs.Common.{◌≡◌, ◌++◌, take, map}
use Rattle.pearl_check.specs.declared.asked.NameRole.TheVariants.{Semaphore}
use Rattle.pearl_check.specs.Asked.{Named, asked_in}
use Rattle.pearl_check.proofs.asked.ask_semaphores.Given as goal

abbrev pub invariant-loop-name : goal.invariant-loop-name
invariant-loop-name l = asked_in l.asked.items ≡ asked_in l.fn.asked.items ++ map (Named Semaphore l.scope) (take l.name-index l.names)
