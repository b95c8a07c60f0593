-- What other crates may cite of this crate's proofs.

-- one member more of a list
pub use Rattle.pearl_saved.proofs.Reading.{more_taken}
-- how many frames a stack has in a state that keeps N5, and how many cells and operands these have together
pub use Rattle.pearl_saved.proofs.Depths.{used, used_all, frames_few}
