-- What other crates may cite of this crate's proofs.

-- what other tokens can spell at a primary or a selector, by the first token
pub use Rattle.pearl_parse_expr.proofs.Primaries.{clash, literal_head, word_within}
-- one part more at the end of a list
pub use Rattle.pearl_parse_expr.proofs.Lists.{listed, each_one_more}
-- selectors: what other tokens can spell that begin as these do, read up to some part
pub use Rattle.pearl_parse_expr.proofs.Parts.{shorter, or_first, or_second}
-- why a part is not read, where what it begins with is not
pub use Rattle.pearl_parse_expr.proofs.Halts.{halted, stuck_of, residual}
-- what is known of a part that is read, or isn't, from what is known of the parts that it is made of
pub use Rattle.pearl_parse_expr.proofs.Readings.{longest_read, unread}
-- past the last token nothing begins
pub use Rattle.pearl_parse_expr.proofs.PastEnd.{no_token}
-- which tokens a part depends on: those before its end alone
pub use Rattle.pearl_parse_expr.proofs.Local.{what, place, name, number, literal_local, terms_local, selector_local}
-- tokens that go on with a part as far as some number: those before it, and others behind them
pub use Rattle.pearl_parse_expr.proofs.Reaching.{begun, begun_alike, what_stands, place_stands, Lawful, none_lawful}
pub use Rattle.pearl_parse_expr.proofs.Reaching.{one_lawful, order, IsLocal, completed, reach_of, goes}
pub use Rattle.pearl_parse_expr.proofs.Reaching.{goes_max, reaches_as_in, reaches_as, goes_as, halts_as}
pub use Rattle.pearl_parse_expr.proofs.Reaching.{reaches_closed_in, reached_halt, placed, placed_within}
pub use Rattle.pearl_parse_expr.proofs.Reaching.{token_of}
-- the ids that stand where one is missing: one letter is no word
pub use Rattle.pearl_parse_expr.proofs.Ids.{letter_token, x_name, x_token, letter_lawful, x_lawful}
-- trees of the parts that go on with what was read
pub use Rattle.pearl_parse_expr.proofs.Trees.{parts_of, boxed}
-- which tokens lists depend on: those before their end alone, where that holds of their parts
pub use Rattle.pearl_parse_expr.proofs.LocalLists.{Keeps, Kept, local_of, after_of, each_keeps, some_keeps, more_keeps}
pub use Rattle.pearl_parse_expr.proofs.LocalLists.{list_keeps, each_long, more_long, list_long}
-- lists that go on as far as a stop: the parts that were read, and one that goes on so far
pub use Rattle.pearl_parse_expr.proofs.ListReach.{each_goes_on}
-- lists with commas, read as far as some part: what other tokens can spell that begin as these do
pub use Rattle.pearl_parse_expr.proofs.CommaLists.{ListRead, list_first, list_more, list_done, list_ended, list_none}
-- brackets, references and operands with operators that go on as far as a stop
pub use Rattle.pearl_parse_expr.proofs.Joining.{selectors_after, named}
-- lists in brackets may stand anywhere: one token makes a part of most of them, two make one that begins with names
pub use Rattle.pearl_parse_expr.proofs.PartsBegin.{names_begin, numbers_begin, bounds_begin, consts_begin, fmts_begin}
pub use Rattle.pearl_parse_expr.proofs.PartsBegin.{exprs_begin, refs_begin, params_begin, items_begin, declared_begin}
pub use Rattle.pearl_parse_expr.proofs.PartsBegin.{specs_begin}
-- a reading by its part, its end and its stop
pub use Rattle.pearl_parse_expr.proofs.Fields.{reading_is}
