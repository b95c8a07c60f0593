-- when each of the rules S10 to S14 is broken, and where, with no lists of faults
pub mod Broken
-- which devices a module has
pub mod Devices
-- what the maps over the system part hold
pub mod FirstDevices
-- a module has one list of devices, which are those that it specifies
pub mod Laws
-- when a list has each of certain things once, in order
pub mod Rising
-- the rules S10 to S14, and the faults of a module in them
pub mod Rules
-- which names a module specifies, and as what
pub mod Specified
