-- What other crates may cite of this crate's proofs.

-- lists into which a thing is put at its place
pub use Rattle.pearl_system.proofs.Lists.{pairs_head, pairs_tail, contains_here, contains_later}
-- a list that rises is told by what it has
pub use Rattle.pearl_system.proofs.Once.{lists_once}
-- a module's devices are those that it specifies
pub use Rattle.pearl_system.proofs.DeviceLaws.{devices_are_specified, specified_means}
