-- when a task's stack, and a whole state of a run, are in bounds
pub mod Bounds
-- that a run comes to its end, and within which bound
pub mod Ends
-- what holds over whole runs of an object
pub mod Laws
