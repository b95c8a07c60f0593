-- What other crates may cite of this crate's proofs.

-- the tokens of what a module says, and that they are those of the module
pub use Rattle.pearl_print.proofs.ShownModules.{source_has_one_text}
-- a printed text is printed again to the same bytes
pub use Rattle.pearl_print.proofs.PrintedAgain.{source_prints_again}
