-- which procedures a task or procedure calls
pub mod Callers
-- which procedures call themselves, directly or through others
pub mod Cycles
-- what a search for calls has marked, and which calls are still open while procedures are numbered
pub mod Marks
-- which number each procedure gets
pub mod Numberings
-- which numbers the procedures of an order have
pub mod Numbers
-- what a task or procedure weighs
pub mod Weights
-- cycles are ways of calls; one numbering at most, where none calls itself; callees have smaller numbers; weights add up
pub mod Laws
