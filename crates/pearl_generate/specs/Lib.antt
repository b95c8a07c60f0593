-- what the expressions of a statement need
pub mod Needs
-- which routines of an object those of a program become
pub mod Routines
