-- what a part of a format is, how parts are joined, and what holds of lawful ones
pub mod Codec
-- what a reader answers
pub mod Reads
