-- what the numbers in an object name
pub mod Objects
-- what one instruction does to its task's stack, or which action it offers
pub mod Steps
-- what the instructions on cells and variables do
pub mod Cells
-- what jumps, loops and calls do
pub mod Flow
-- what the operators, conversions and subscripts do
pub mod Operators
-- which actions the instructions on tasks, semaphores and devices offer
pub mod Offers
-- one row for each instruction, and what runs of rows are
pub mod Rows
-- what each opcode holds, names, takes and pushes, where it leads and what its limits are: one row each
pub mod Opcodes
-- which operands each instruction takes, and of which sorts
pub mod Operands
-- which numbers an instruction may name, and which cells it names
pub mod Named
-- which kinds operands and cells must have, and what an instruction pushes
pub mod Kinds
-- which rule fails at an instruction, and which objects are valid
pub mod Valid
-- which stacks are stacks of an object, and which answers suit an action
pub mod Stacks
-- which actions a task may offer
pub mod Actions
-- whose task a stack is, and how a row moves its frames
pub mod Owned
-- what is asked of each object, before any rule of the validator
pub mod Lawful
-- which value is held by a literal
pub mod Literals
-- where the slots of an object's leaves begin
pub mod Slots
-- what holds of every valid object
pub mod Laws
-- the tables from which an object's run starts
pub mod Setups
-- how an object's code runs, and how the object runs over a journal's entries
pub mod Engines
-- whose stack a task's code stands with, and how soon it offers an action
pub mod Owners
-- what holds of the runs of valid objects
pub mod RunLaws
-- what an object's own code offers
pub mod OwnOffers
