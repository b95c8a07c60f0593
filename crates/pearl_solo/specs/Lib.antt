-- what an instruction did, with the action that lies beside it
pub mod Gives
-- the stack with which a task goes on after an answer, and what a reference names
pub mod Answered
-- when a plan begins, by the value that lies for it
pub mod Plans
-- the routine of the task whose stack this is
pub mod Owners
-- which operands make the text of a format
pub mod Texts
-- silent rows, one after the other, up to the row that offers an action
pub mod Settling
-- what the answer to an instruction's action stands on
pub mod Hearing
