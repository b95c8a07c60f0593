-- how far the kinds of cells go on
pub mod Runs
-- what is kept of each format, so that an instruction that names it needn't look through it again
pub mod Formats
-- which shapes have a number, so that two are the same where their numbers are, and what is kept of the shape before an instruction
pub mod Numbers
-- which instructions jumps name, and which shapes are stated
pub mod Jumps
-- what is told of an instruction, of a routine and of an object
pub mod Verdicts
-- the shape before an instruction, and what is kept where it was looked up
pub mod Shapes
