-- Which numbers the procedures of an order have.
use Rattle.std.specs.Prelude.{◌≡◌, ℕ, ◌<◌, true, List, length, nat_eq, Some, slice_get, slice_index}
use Rattle.std.specs.List.{list_any}

pub record AreNumbers (order numbers : List ℕ) : Type 0 where
  pub within : (procedure : ℕ) → list_any (nat_eq procedure) order ≡ true → procedure < length numbers
  pub place : (procedure : ℕ) → procedure < length numbers → slice_get order (slice_index numbers procedure) ≡ Some procedure
