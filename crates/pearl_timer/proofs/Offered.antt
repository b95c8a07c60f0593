-- What other crates may cite of this crate's proofs.

-- a task that is due has a series, and no series fires of one that isn't
pub use Rattle.pearl_timer.proofs.TaskLaws.{task_is_there, none_fires}
