-- what a stack is, and what each call makes of it
pub mod Frames
-- how the frames of a stack lie in memory
pub mod Memory
-- what the calls on a stack mean to one another: operands, arguments, cells, and how many values there are
pub mod Laws
-- a row of values, and for how many there is memory
pub mod Held
