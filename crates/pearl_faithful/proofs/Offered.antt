-- What other crates may cite of this crate's proofs.

-- an object that does what a program means tells what it does
pub use Rattle.pearl_faithful.proofs.Telling.{tell_alike}
-- the weight of each procedure, where each calls smaller ones alone, and how many weights there are
pub use Rattle.pearl_faithful.proofs.Weights.{weight_is, weights_count}
