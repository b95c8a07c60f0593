use Rattle.pearl_sound.proofs.Offered.{semaphores_named}
use Rattle.pearl_top_tests.proofs.source.tree_of.Goals as goal

pub returns-in-Ok-parse-clause-named : goal.returns-in-Ok-parse-clause-named
returns-in-Ok-parse-clause-named c = semaphores_named c.in-Ok-parse.tree c.as_slice.result.now c.in-Ok-parse.ensures.spells
