use Rattle.std.proofs.Common.{◌≡◌, replicate, None}
use Rattle.pearl_kernel.proofs.opening.no_offers.Given as goal

abbrev pub invariant-loop : goal.invariant-loop
invariant-loop l = l.offers.items ≡ replicate l.counter None
