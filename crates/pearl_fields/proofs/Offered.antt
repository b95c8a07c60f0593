-- What other crates may cite of this crate's proofs.

-- parts that are made of lawful parts, in which nothing before a bad field is bad, are such parts
pub use Rattle.pearl_fields.proofs.Told.{IsTold, byte_told, number_told, number_in_told, signed_in_told, nothing_told, never_told}
pub use Rattle.pearl_fields.proofs.Told.{guarded_told, spelled_told, pair_told, shaped_told, keyed_told, tagged_told, rolled_told, counted_told, list_told, exactly_told}
pub use Rattle.pearl_fields.proofs.Told.{IsArm, AreArms, arm_of, made_arm, whole_before}
-- what holds of lawful parts over all of some bytes
pub use Rattle.pearl_fields.proofs.Laws.{whole_takes, whole_again, none_begins, one_value, local, bind_err, ok_is, guard_err}
pub use Rattle.pearl_fields.proofs.Laws.{bytes_before, bytes_behind, spelled_in_bytes}
-- what numbers have bytes, and how many
pub use Rattle.pearl_fields.proofs.Numbers.{number_in_bytes, number_some, zigzag_again}
-- reading members one after the other
pub use Rattle.pearl_fields.proofs.Loop.{with_front, goes_on, ends, is_done}
