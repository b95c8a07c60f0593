-- What other crates may cite of this crate's proofs.

-- numbers cut into digits of some bits each
pub use Rattle.pearl_format.proofs.Digits.{counted, length-last_digits, digit_more}
-- how long the text of an item is, and the text of all items
pub use Rattle.pearl_format.proofs.Texts.{put_text-is_within}
-- which bytes a text has
pub use Rattle.pearl_format.proofs.Printable.{put_text-printable}
-- how many values items take
pub use Rattle.pearl_format.proofs.Counts.{suits-length}
