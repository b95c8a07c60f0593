use Rattle.std.proofs.Common.{◌≡◌, ◌++◌}
use Rattle.pearl_watch.specs.Watched.{slots_from}
use Rattle.pearl_watch.proofs.watched.push_slots.Given as goal

abbrev pub invariant-loop-number : goal.invariant-loop-number
invariant-loop-number l = l.watched.items ≡ l.fn.watched.items ++ slots_from l.name l.first l.number
