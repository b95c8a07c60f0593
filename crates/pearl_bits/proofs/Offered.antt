-- What other crates may cite of this crate's proofs.

-- a bit is 0 or 1
pub use Rattle.pearl_bits.proofs.BitsLaws.{bit_small}
