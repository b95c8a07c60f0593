-- What other crates may cite of this crate's proofs.

-- what is done one after another is the same, where each part is
pub use Rattle.pearl_meaning.proofs.Alike.{Alike, after_same}
-- a call means the same however many calls may stand within one another, where each procedure calls smaller ones
pub use Rattle.pearl_meaning.proofs.CallsAlike.{calls_run}
-- no expression and no variable gives back more answers than there were
pub use Rattle.pearl_meaning.proofs.ExpressionsUse.{CallsUse, calls_uses, eval_uses, hand_over_uses}
-- no statement of a program gives back more answers than there were, whatever calls stand in it
pub use Rattle.pearl_meaning.proofs.StatementsUse.{target_uses, exec_all_uses, calls_use_up}
-- a part of a program that has had all answers that it can have has none left
pub use Rattle.pearl_meaning.proofs.HeardUses.{LeavesNone, heard_used}
