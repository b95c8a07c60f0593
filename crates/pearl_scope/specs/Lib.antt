-- constants of INIT, and the slots that they are put into
pub mod Constants
-- how constants are put into slots that are listed as runs
pub mod Filling
-- the parts of a module in which a rule on names and types may be broken
pub mod Parts
-- the statements of a module with where they stand
pub mod Placed
-- the parts of lists
pub mod PartLists
-- which names are seen at a part
pub mod Seen
-- the rules S1 to S9, and the faults of a module in them
pub mod Rules
-- the rules that a module breaks have one list; constants fit the kinds of which their values become one
pub mod Laws
