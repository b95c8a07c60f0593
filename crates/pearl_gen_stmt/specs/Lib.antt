-- which code stands for a statement
pub mod StmtCode
-- what the code of statements does
pub mod Laws
-- which objects a program becomes, and that their code does what its tasks mean, or comes to where there is no row
pub mod Generated
-- which action code offers over some answers
pub mod Offering
-- where the code of expressions and statements of a program arrives, in a valid object
pub mod Arriving
-- what is emitted, until jumps to places that come later have got theirs
pub mod Emission
