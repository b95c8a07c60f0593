-- What other crates may cite of this crate's proofs.

-- blanks, comments and tokens one after another
pub use Rattle.pearl_lex.proofs.Lexing.{no_space, more_space}
-- what the tests of bytes and lists say
pub use Rattle.pearl_lex.proofs.Passes.{and_front, and_back}
-- the tokens of a source, or the place at which it has none, are determined
pub use Rattle.pearl_lex.proofs.Unique.{one_reading, one_place, never_both}
-- what a source lexes to is lawful
pub use Rattle.pearl_lex.proofs.LawfulTokens.{lawful_tokens}
