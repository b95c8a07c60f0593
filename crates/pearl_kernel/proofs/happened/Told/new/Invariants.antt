use Rattle.std.proofs.Common.{◌≡◌, length}
use Rattle.pearl_kernel.proofs.happened.Told.new.Given as goal

abbrev pub invariant-loop : goal.invariant-loop
invariant-loop l = record {
  room : l.free.capacity ≡ 200;
  full : length l.free.items ≡ l.counter;
}
