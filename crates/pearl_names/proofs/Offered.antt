-- What other crates may cite of this crate's proofs.

-- lists of what the elements of a list show
pub use Rattle.pearl_names.proofs.Lists.{one_taken, all_taken, list_steps}
-- what statements with statements within them show, told by the lists that their fields hold
pub use Rattle.pearl_names.proofs.StatementRows.{if_shown, case_shown, repeat_shown, begin_shown}
-- scopes whose declarations stand one after the other
pub use Rattle.pearl_names.proofs.Collecting.{length-stmt_scopes, length-all_scopes, length-branch_scopes}
-- the names of scopes whose declarations stand one after the other
pub use Rattle.pearl_names.proofs.Sorting.{sorted_names-cons, sorted_names-append}
-- declarations of the module one after the other
pub use Rattle.pearl_names.proofs.DeclLists.{length-decl_scopes}
-- the first of some names that has a text, where one more name comes behind them
pub use Rattle.pearl_names.proofs.FirstNames.{bytes_symm}
-- how counts of leaves are made of those of their parts
pub use Rattle.pearl_names.proofs.Counting.{behind, leaves_behind, elements-append, counts_of_variable, sound_counts}
-- what forms stand for: it stays where more forms come, and fields are found by their names
pub use Rattle.pearl_names.proofs.Standing.{stands_more, fields_all}
-- what types come to where STRUCTs with one field are gone past
pub use Rattle.pearl_names.proofs.Chains.{ends_in}
-- the forms of written types, field by field
pub use Rattle.pearl_names.proofs.FieldsMade.{all_match_more, grows_more, grows_none, struct_shown}
-- how many dimensions and elements bounds have, one after the other
pub use Rattle.pearl_names.proofs.Sized.{bounds_at, own_bounds}
-- small modules and what their names stand for
pub use Rattle.pearl_names.proofs.Examples.{name, number, source, upto, between, fixed, item, declare, constant, tabled}
-- which kinds are among slots that stand one after the other, and among slots of so many elements
pub use Rattle.pearl_names.proofs.KindSets.{kinds-append}
-- the slots of shapes: those of their leaves, their kinds, and those of the last fields
pub use Rattle.pearl_names.proofs.ShapeSlots.{slots_of_shape, few_in_shape, elements_some, same_kinds}
-- walks over the slots of a variable: from a type to its first leaf, and from each leaf to the next
pub use Rattle.pearl_names.proofs.Walking.{no_field}
