-- What other crates may cite of this crate's proofs.

-- milliseconds in which no plan fires change the moment alone
pub use Rattle.pearl_kernel.proofs.Passing.{millisecond-silent, passed-quiet}
-- a lawful kernel has the tables' slots
pub use Rattle.pearl_kernel.proofs.Naming.{slots-length}
