-- What other crates may cite of this crate's proofs.

-- an object's bytes are read as it
pub use Rattle.pearl_object.proofs.Reading.{seen_of}
-- objects are read as they are spelled
pub use Rattle.pearl_object.proofs.Wholes.{object_told}
-- so are kinds and literals
pub use Rattle.pearl_object.proofs.Parts.{kind_told, literal_told}
-- so are bounds and switches
pub use Rattle.pearl_object.proofs.OperandLaws.{bounds_told, flag_told}
-- an object fits its spelling, where this is bytes
pub use Rattle.pearl_object.proofs.Standing.{object_fits}
