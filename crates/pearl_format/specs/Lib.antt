-- what the text of a value is, and how a text is put into a width
pub mod Fields
-- which items suit which kinds, and how wide they are
pub mod Items
-- the text of one item alone
pub mod Parts
-- the text that PUT writes by a list of items
pub mod Texts
-- where a text is longer than its width
pub mod Longer
-- which bytes a text may have
pub mod Bytes
-- the digits of a BIT, told of its truth values
pub mod BitDigits
