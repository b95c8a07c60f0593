use Rattle.std.proofs.Common.{take}
use Rattle.pearl_names.proofs.Holding.{ScopesHeld}
use Rattle.pearl_names.proofs.senses.all_senses.Given as goal

abbrev pub invariant-loop-scope : goal.invariant-loop-scope
invariant-loop-scope l = ScopesHeld l.names l.lengths l.fn.types l.types l.number l.all.items (take l.scope-index l.scopes)
