-- what contracts see of a machine, and where a run goes on from there
pub mod Seen
-- the row of the tasks' stacks
pub mod Parts
-- what is known of every valid object
pub mod Known
-- what a sink has taken of the lines that a run tells
pub mod Told
-- what holds of a machine between its calls
pub mod Ready
-- one mark of a run, and what each active task does behind it
pub mod Marked
-- what is saved of a machine, and the machine that goes on from what was saved
pub mod Resumed
