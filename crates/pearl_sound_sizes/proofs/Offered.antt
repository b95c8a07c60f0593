-- What other crates may cite of this crate's proofs.

-- lists of which all elements have a property, the greatest of a list, and lists that suit one by one
pub use Rattle.pearl_sound_sizes.proofs.Basics.{some_one, all_at}
-- the numbers that procedures get by the rule: there are as many as procedures, all below their count and all different
pub use Rattle.pearl_sound_sizes.proofs.ByNumber.{something, order_differs, placed, numbers_whole}
-- a module's procedures by their numbers: each calls smaller ones alone, and weighs no more than the rule says
pub use Rattle.pearl_sound_sizes.proofs.Whole.{whole}
-- the laws of numbers, sizes and tasks
pub use Rattle.pearl_sound_sizes.proofs.Sized.{smaller_called, sizes_within}
