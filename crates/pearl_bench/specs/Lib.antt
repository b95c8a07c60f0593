-- the source and the journal of the workload
pub mod Texts
-- the line that sums a transcript up
pub mod Counts
