-- What other crates may cite of this crate's proofs.

-- what tests that are joined by `or` say
pub use Rattle.pearl_calls.proofs.Truths.{by_case, or_rest, nor_left, nor_right, and_left, and_right, nand}
-- where calls lead back to a procedure at all, they do so within as many calls as there are procedures
pub use Rattle.pearl_calls.proofs.Ways.{inside, cycles}
-- where no procedure calls itself, no calls go deeper than there are procedures, and so weights add up
pub use Rattle.pearl_calls.proofs.Adding.{add_up}
-- the rule of numbers leaves no choice, numbers each procedure once, and callees before those that call them
pub use Rattle.pearl_calls.proofs.Following.{agrees, only_procedures, callees_first}
