-- what a step makes of a stack in memory, and when a row applies there
pub mod Steps
-- which cells of the top frame hold numbers
pub mod Numbers
-- what Advance and NonZero make of numbers
pub mod Advances
-- what an instruction stands on: a stack of a valid object at this instruction, with memory for what its row leaves
pub mod Standing
-- what is known of every valid object, and whose laws a step rests on
pub mod Known
-- the offset of an element, by values as subscripts
pub mod Indices
-- silent rows, one after the other
pub mod Settling
