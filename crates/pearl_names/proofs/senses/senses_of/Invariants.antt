use Rattle.std.proofs.Common.{take}
use Rattle.pearl_names.proofs.Holding.{HeldSo}
use Rattle.pearl_names.proofs.senses.senses_of.Given as goal

abbrev pub invariant-loop-group : goal.invariant-loop-group
invariant-loop-group l = HeldSo l.names l.lengths l.scope l.fn.types l.types l.senses.items (take l.group-index l.groups)
