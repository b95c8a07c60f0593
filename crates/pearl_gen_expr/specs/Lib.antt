-- to what code comes over some answers: to a stack, to an action, or to where there is no row
pub mod Comes
-- where a task stands, apart from what its cells hold
pub mod Contexts
-- when code does what a part of a program means
pub mod Carrying
-- when an object has the tables of a program
pub mod Tables
-- which code stands for an expression
pub mod ExprCode
-- what the validator asks of a part of the code
pub mod Shapes
-- what is emitted
pub mod Emitting
-- where the code of expressions, calls and statements ends
pub mod Ends
-- when the code of procedures does what calls of them mean
pub mod Calls
-- what the code of expressions does
pub mod Laws
