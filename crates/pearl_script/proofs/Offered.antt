-- What other crates may cite of this crate's proofs.

-- what holds of lines, for those who write them one by one
pub use Rattle.pearl_script.proofs.LineLemmas.{lines_of-append, lines_of-next}
