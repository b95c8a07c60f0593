-- what a line says: its words, numbers and texts
pub mod Says
-- which device a number names, and which task a name
pub mod Named
-- which texts are times of day
pub mod Times
-- which texts are lengths of time
pub mod Durations
-- which value a literal spells
pub mod Literals
-- how far a journal was read
pub mod Readings
-- what the lines of a journal mean behind those of another one, and what is the same if they stand alone
pub mod Later
