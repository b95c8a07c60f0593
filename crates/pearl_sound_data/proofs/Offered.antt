-- What other crates may cite of this crate's proofs.

-- constants become values of each kind, and the leaves that they are put into have first values
pub use Rattle.pearl_sound_data.proofs.FirstValues.{left_constants, merged_first}
-- the leaves of what names stand for: their kinds have lengths in range, their fields are written in types
pub use Rattle.pearl_sound_data.proofs.Shapes.{IfThere, SenseHasKinds, table_kinds}
-- what names mean has what all that is in the table has
pub use Rattle.pearl_sound_data.proofs.Meant.{ThingIs, meant_so}
-- in a lawful tree that keeps the rules on names and types all constants of INIT are values
pub use Rattle.pearl_sound_data.proofs.ModuleConstants.{module_constants}
-- the tables of a lawful tree's program are sound, where no rule is broken
pub use Rattle.pearl_sound_data.proofs.Tables.{module_tables}
