-- the program of a module, and which numbers its procedures get by the rule
pub mod ByRule
-- what holds of the numbers of procedures, of sizes and of tasks in the program of a module
pub mod Laws
