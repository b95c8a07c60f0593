-- What other crates may cite of this crate's proofs.

-- a running sum passes a limit once where the whole sum is above it, and else nowhere
pub use Rattle.pearl_check.proofs.Limits.{within_limit}
