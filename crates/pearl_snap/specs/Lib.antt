-- how lists are spelled whose members know nothing of each other, and numbers that may be missing
pub mod Lists
-- how what a cell holds is spelled
pub mod Cells
-- how plans are spelled
pub mod Plans
-- how tasks are spelled, with their stacks
pub mod Tasks
-- how the state of a run is spelled
pub mod States
-- how a snapshot is spelled, and what its bytes are read as
pub mod Snapshots
-- what is tested of a state that was read: N2 over the leaves of an object, and that it holds values
pub mod Parts
-- what references lead to, where a state keeps N2 and N5
pub mod Leads
-- what the frames of a state ask of the shapes before their places
pub mod Asking
-- the rules by their numbers
pub mod Numbers
-- what bytes are restored to, or why they aren't
pub mod Restoring
