-- What other crates may cite of this crate's proofs.

-- lines that a sink has taken, and what is left to tell
pub use Rattle.pearl_machine.proofs.Taken.{cut_front}
-- where a run goes from where a machine stands
pub use Rattle.pearl_machine.proofs.Going.{handles_none, handles_then, handles_on, handles_retold}
