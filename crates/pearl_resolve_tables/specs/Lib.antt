-- how a scope's variables lie in leaves and cells, and what their INIT puts into them
pub mod Laying
-- what a semaphore has at first
pub mod Presets
-- which device of the program a specified one is
pub mod Devices
-- which formats a module has: one for each PUT and GET, in the order of the text
pub mod Formats
-- walks over the leaves of a variable: the name is made longer on the way down and cut off on the way up
pub mod Walks
