-- What other crates may cite of this crate's proofs.

-- laws of a journal's lines, and of the entries that they have
pub use Rattle.pearl_journal.proofs.JournalLaws.{without_return-drops}
-- how texts are written
pub use Rattle.pearl_journal.proofs.TextLaws.{quoted_read, quoted_only}
-- texts of lines have bytes from 32 to 126, and 255 of them at most
pub use Rattle.pearl_journal.proofs.TextFits.{IsShort, quoted-short}
-- what a literal gives fits where it comes in
pub use Rattle.pearl_journal.proofs.ValueFits.{LiteralIs, literal-is}
-- an accepted entry fits the tables at the moment at which it is read
pub use Rattle.pearl_journal.proofs.FitLaws.{meaning-fits, moment_after-late, entries-fit}
-- blanks at the ends of texts and between words
pub use Rattle.pearl_journal.proofs.BlankLaws.{behind_blanks-gap, behind_blanks-bare, before_blanks-bare, IsSolid}
pub use Rattle.pearl_journal.proofs.BlankLaws.{StopsWord, before_first-word, after_first-word, solid_last, solid_begins}
pub use Rattle.pearl_journal.proofs.BlankLaws.{before_blanks-first}
-- what lines mean that are written otherwise, and which lines are skipped
pub use Rattle.pearl_journal.proofs.MeaningLaws.{blanks_free}
-- laws of a journal that is read in pieces: however it is cut, the same entries come
pub use Rattle.pearl_journal.proofs.PieceLaws.{none_ended, none_read, taken_within, taken_some}
