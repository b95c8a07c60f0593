-- What other crates may cite of this crate's proofs.

-- steps after steps, and that a run has one last state
pub use Rattle.pearl_run_laws.proofs.Steps.{after_after}
-- a run that has ended goes on over further entries
pub use Rattle.pearl_run_laws.proofs.GoingOn.{runs_go_on}
-- at the end of a run all its time has passed, where time passes by milliseconds alone
pub use Rattle.pearl_run_laws.proofs.Moments.{moments_come}
-- each mark can be an end
pub use Rattle.pearl_run_laws.proofs.Parting.{entries_part}
