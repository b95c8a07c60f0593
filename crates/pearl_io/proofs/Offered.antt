-- What other crates may cite of this crate's proofs.

-- pieces of files one after another, and what a sink has taken after two pieces
pub use Rattle.pearl_io.proofs.Pieces.{read_on, takes_more, takes_front_more}
-- counts of faults over a call and over its parts
pub use Rattle.pearl_io.proofs.Counts.{rose_since, failed_since}
