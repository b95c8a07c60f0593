-- What other crates may cite of this crate's proofs.

-- a named semaphore stands at some place of the list
pub use Rattle.pearl_sema.proofs.RowLaws.{place_of_named}
-- the counts of the named semaphores alone are lowered or raised
pub use Rattle.pearl_sema.proofs.CountLaws.{lowers_just_these, raises_just_these}
