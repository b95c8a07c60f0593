-- the tasks and procedures of a module, with the scopes of their bodies and their statements
pub mod Routines
-- what an expression is made of: literals, names, and the words NOW, TRY, LWB and UPB
pub mod Pieces
-- what a list of pieces in memory shows, and the pieces of lists
pub mod PieceLists
-- what a statement asks for: expressions in their roles, targets, calls, and names of tasks, semaphores, interrupts and dations
pub mod Asked
-- which kinds and names are seen from a statement
pub mod Views
-- what is found of the parts of a statement: the kinds of its subjects, and the entries that its names mean
pub mod Findings
-- the rules on what a statement asks for: S23, S25 and S29, and S16 for the names of tasks, semaphores, interrupts and dations
pub mod Roles
-- the rules on statements as a whole: S24, S26, S27 and S31
pub mod Statements
-- which dations a transfer may name: S32
pub mod Dations
-- which items a format may have for its values or targets: S33
pub mod Formats
-- which procedures a task or procedure calls, and which call themselves: S28
pub mod Calls
-- which procedures names call, by their numbers
pub mod Calling
-- the sizes of a module, and the weights of its tasks and procedures: S34
pub mod Sizes
-- what a name adds to each size of a module, and the limits; the sizes that are told
pub mod SizeSorts
-- which lists in memory hold the tasks and procedures of a module
pub mod Weighing
-- all rules that a module breaks, and the first of them
pub mod Rules
-- what a check tells of a module
pub mod Checks
-- what is told is the first of the faults in order, and where sizes are told
pub mod Laws
