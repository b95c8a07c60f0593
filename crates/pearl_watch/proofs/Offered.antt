-- What other crates may cite of this crate's proofs.

-- machine steps behind others, and their lines
pub use Rattle.pearl_watch.proofs.StepLines.{steps_add, lines_add}
-- the lines of machine steps are those of the cores after each mark
pub use Rattle.pearl_watch.proofs.MarkLines.{by_marks}
-- what a monitor shows, one part after another
pub use Rattle.pearl_watch.proofs.Showing.{watches_none, watches_then, watches_behind, watches_on}
-- and of a whole run
pub use Rattle.pearl_watch.proofs.Whole.{whole}
-- nothing was told of what is watched at the start
pub use Rattle.pearl_watch.proofs.Telling.{nothing_told}
