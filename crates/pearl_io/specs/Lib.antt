-- what a shelf holds, what a sink has taken, and when a count of faults has risen
pub mod Outside
-- what the shelves and sinks in memory consist of
pub mod Memory
-- what the answer of fetching a whole file says of the file
pub mod Fetched
