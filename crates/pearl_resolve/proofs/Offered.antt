-- What other crates may cite of this crate's proofs.

-- small modules and the programs that they mean
pub use Rattle.pearl_resolve.proofs.Examples.{source, fixed, item, variable}
