-- What other crates may cite of this crate's proofs.

-- which kinds suit which, told twice
pub use Rattle.pearl_value.proofs.Suiting.{suits_both}
-- what conversions and operators make of values is a trap, or a value of the kind that is told beforehand
pub use Rattle.pearl_value.proofs.Results.{keeps_rows2, keeps_rows1, blank_gives, keeps_kinds}
-- the numbers that truth values spell
pub use Rattle.pearl_value.proofs.BitNumbers.{number-append, number-below, length-zeros_to, number-zeros_to}
pub use Rattle.pearl_value.proofs.BitNumbers.{bits-number, length-bits, number-bits}
-- why the operators on BIT do to numbers what they do to lists of truth values
pub use Rattle.pearl_value.proofs.BitOperators.{in_two, before}
