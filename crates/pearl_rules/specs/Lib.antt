-- what the state of a run is, apart from the tasks' own variables
pub mod Core
-- the counts of semaphores, and what becomes of them
pub mod Counts
-- when a series fires
pub mod Series
-- the same in other words
pub mod SeriesLaws
-- when plans serve, and what they do then
pub mod Plans
-- how devices stand, and what comes in
pub mod Devices
-- how literals are read from bytes
pub mod Literals
-- what GET reads from the bytes that came in
pub mod Scan
-- which task acts next, and how a task stands
pub mod Pick
-- what an action does to the core, and what its task hears
pub mod Effect
-- how a run goes over a journal, by the source's rules and by a machine
pub mod Runs
-- when a machine's code means what the source's rules say, and what of one task is enough
pub mod Faithful
-- what the laws of turns, effects and runs say
pub mod Laws
-- what the tables of a program or an object are like
pub mod Tables
-- the kinds of the module's variables, and when each holds a value of its kind
pub mod Slots
-- which entries of a journal fit the tables
pub mod Entries
