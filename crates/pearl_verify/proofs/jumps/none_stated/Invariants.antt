use Rattle.std.proofs.Common.{◌≡◌, ℕ, ◌<◌, Some, None, length, slice_get}
use Rattle.pearl_verify.proofs.jumps.none_stated.Given as goal

abbrev pub invariant-instructions : goal.invariant-instructions
invariant-instructions l = (length l.numbers.items ≡ l.counter) × ((i : ℕ) → i < l.counter → slice_get l.numbers.items i ≡ Some None)
