-- What other crates may cite of this crate's proofs.

-- the stack of a task stays one
pub use Rattle.pearl_instructions.proofs.Stands.{silent_is, offers_is}
-- a letter alone is an identifier
pub use Rattle.pearl_instructions.proofs.Letters.{letter_is_id}
