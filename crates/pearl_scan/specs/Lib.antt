-- which bytes count as blanks
pub mod Gaps
-- digits that are read one after another
pub mod Digits
-- what an answer of a scan tells
pub mod Answers
-- what GET uses, and what it reads, also of what PUT wrote
pub mod Laws
-- how far a GET has come where more bytes may come in
pub mod Progress
