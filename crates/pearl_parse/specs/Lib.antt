-- the words with which statements begin, and what each begins
pub mod FirstWords
-- which token goes on with a part of a statement, and with which none goes on
pub mod Stops
-- which tokens the parts of calls and returns spell
pub mod Calls
-- which tokens the parts of scheduled statements spell
pub mod Schedules
-- which tokens the parts of statements spell that hold other statements, told by plain lists
pub mod Bodies
-- which statement a first token begins
pub mod Firsts
-- with which tokens declarations begin, and which tokens the parts of a module spell
pub mod Modules
-- why tokens have no tree, and where that is told
pub mod Refusals
-- how far some part goes on, where that is told no earlier than what stands before it was stopped
pub mod Reached
-- what is known of statements that are read, or aren't, and of parts that are read behind others
pub mod Reads
