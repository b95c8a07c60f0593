-- What other crates may cite of this crate's proofs.

-- laws of the definitions of a stack
pub use Rattle.pearl_stack.proofs.StackLaws.{numbers_frames}
