-- what contracts see of a kernel, when it is lawful, and what its calls do
pub mod Kept
-- what is offered at a task's place for its offer
pub mod Bids
-- how a device stands in the rules' core
pub mod Channels
-- when plans fire, and how far in time a kernel can be
pub mod Timing
-- when an action names what is there
pub mod Names
-- the set of the tasks that can act
pub mod Eligible
-- what a kernel keeps true of its fields, and what one step of a task asks of them
pub mod Whole
-- what may have changed of all that offers wait for
pub mod Changes
-- which semaphores the request of each task names
pub mod Requests
-- which tasks besides its own an action touches
pub mod Touched
-- the bits that tell which tasks are active and have offered nothing
pub mod Unsettled
-- how far the GET that each task offers has come
pub mod Gets
-- at which device each task's offer waits
pub mod Listening
