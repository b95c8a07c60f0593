-- What other crates may cite of this crate's proofs.

-- statements one after the other, each put at its place
pub use Rattle.pearl_scope.proofs.Placing.{placed_in-nil, placed_in-append}
-- the parts of statements are those of their places
pub use Rattle.pearl_scope.proofs.PartsPlaced.{all_placed}
-- names that were seen, by their texts, and those that repeat one before
pub use Rattle.pearl_scope.proofs.Seen.{told_none, told_more}
-- constants fit the kinds of which their values become one
pub use Rattle.pearl_scope.proofs.Put.{fits_where_put}
