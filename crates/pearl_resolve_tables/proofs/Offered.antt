-- What other crates may cite of this crate's proofs.

-- where neighbouring leaves of one kind are one leaf, there are the same slots, as many, of kinds of which the same holds
pub use Rattle.pearl_resolve_tables.proofs.Merging.{slot_count, merged_slots, merged_count, merged_kinds}
