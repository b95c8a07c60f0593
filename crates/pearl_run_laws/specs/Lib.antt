-- when a run has ended, and from which state it goes on over further entries
pub mod GoingOn
-- which two entries are an entry in two parts
pub mod Parts
-- what holds of runs that go on
pub mod Laws
