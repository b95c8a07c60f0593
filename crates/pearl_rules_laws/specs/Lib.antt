-- what it is to act, to change one variable, and to stand as declared
pub mod Laws
-- what plans come to, what is told, how one device changes, and how a task is broken off there
pub mod Plans
-- what becomes of the starts that tasks keep
pub mod Kept
-- what it is that two lists of entries make the same run, which tasks have heard something, and that a mark is one
-- action of a task
pub mod Runs
-- what becomes of each start of a task over a run
pub mod Queue
