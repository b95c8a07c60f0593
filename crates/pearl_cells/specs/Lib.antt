-- what an operator makes of two values, as a result that is small in memory
pub mod Made
-- a CHAR that is filled up with blanks
pub mod Filled
