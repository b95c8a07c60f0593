-- what waits at an input, and what at a terminal
pub mod Pending
-- which family a cell is of, and what it is to carry the values of one
pub mod Families
-- which cell a carried value is, and which value a cell is
pub mod Values
-- that each of the five types carries the values of its family
pub mod ValueLaws
-- what waits at an input of any kind, as cells
pub mod Inputs
