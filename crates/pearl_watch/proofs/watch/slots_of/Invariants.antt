use Rattle.std.proofs.Common.{◌≡◌, map, take}
use Rattle.pearl_watch.proofs.watch.slots_of.Given as goal

abbrev pub invariant-loop-slot : goal.invariant-loop-slot
invariant-loop-slot l = l.slots.items ≡ map (λ s. s.slot) (take l.slot-index l.watched)
