-- what a state must be so that a run can go on from it: rules N1 to N6
pub mod Rules
-- what is recorded of a stack, and the stack of a record
pub mod Stacks
-- how a stack is read and filled, frame by frame
pub mod Filling
-- what the frames of a lawful state stand for
pub mod Laws
