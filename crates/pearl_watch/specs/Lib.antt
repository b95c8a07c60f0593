-- which entries of one mark make the marks of some entries
pub mod Marks
-- how a machine runs to which the entries are handed over mark by mark
pub mod Handing
-- which slots are watched by their leaves' names, and which names are refused
pub mod Watched
-- the line of a watched slot's value, and when there is none
pub mod Lines
-- how the watched slots change over a run, mark by mark
pub mod Changes
-- what contracts see of a monitor, and what it writes of its machine's run
pub mod Monitored
