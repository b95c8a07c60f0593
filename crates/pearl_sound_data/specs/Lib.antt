-- which constants of INIT are values, and where those of statements stand
pub mod Constants
-- what INIT puts into the slots of variables: the constants in order, and the last of them into all slots that are left
pub mod Filling
-- what holds of first values, and of the leaves, devices, formats and presets of a program
pub mod Laws
