-- from where a run goes on, and where it comes to
pub mod Going
-- what holds of runs that are saved, and of those that go on from what was saved
pub mod Laws
