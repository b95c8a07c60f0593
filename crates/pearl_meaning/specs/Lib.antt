-- a task's own variables, frame by frame
pub mod Frames
-- what is done over a list of answers
pub mod Evaluation
-- where an expression or a statement stands
pub mod Setting
-- which element a variable's subscripts name, and how it is read and written
pub mod Variables
-- what the value of an expression is, and what a procedure is handed
pub mod Values
-- how REPEAT goes
pub mod Loops
-- what ACTIVATE, CONTINUE and RESUME do
pub mod Schedules
-- what PUT, GET, SEND and TAKE do, and assignment
pub mod Transfers
-- what a statement does
pub mod Execution
-- what a call does, and what a task does next after the answers that it had
pub mod Programs
-- which answers suit an action, and which a task can have since its start, or a part of a program since it began
pub mod Hearing
-- the tables from which a program's run starts, and how it runs over a journal's entries
pub mod ProgramRuns
-- what holds of loops and calls
pub mod Laws
