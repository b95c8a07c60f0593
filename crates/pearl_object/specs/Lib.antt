-- how a list is spelled whose members know nothing of each other
pub mod Lists
-- how kinds are spelled: of values and of cells
pub mod Kinds
-- how literals are spelled
pub mod Literals
-- how the operands of instructions are spelled
pub mod Operands
-- how instructions are spelled: a row for each, in the order of the opcodes
pub mod Instructions
-- the names of the opcodes, and which letter stands for each of their operands
pub mod CodeRows
-- how the code of a routine is spelled
pub mod Codes
-- how the tables of an object are spelled: devices, semaphores, leaves and formats
pub mod Tables
-- how an object is spelled, and what its bytes are read as
pub mod Objects
-- the text that an object is listed as
pub mod Listing
-- what the validator's rules read of an instruction, and the operands that its bytes and its listing have
pub mod Columns
