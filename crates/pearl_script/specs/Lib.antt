-- the parts of a transcript's lines
pub mod Words
-- what a value is written as in a line
pub mod Literals
-- the lines of a transcript
pub mod Lines
-- the lines that tell why nothing more was done
pub mod Refusals
