-- What other crates may cite of this crate's proofs.

-- what digits of some bits each spell
pub use Rattle.pearl_scan.proofs.BitLaws.{other_byte}
-- how far a GET has come where more bytes come in
pub use Rattle.pearl_scan.proofs.Going.{going_on}
