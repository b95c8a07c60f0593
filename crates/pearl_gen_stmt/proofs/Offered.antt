-- What other crates may cite of this crate's proofs.

-- the code of procedures does what calls of them mean
pub use Rattle.pearl_gen_stmt.proofs.Procedures.{procedure_routine}
-- what statements with statements within them say, told by the lists that their fields hold
pub use Rattle.pearl_gen_stmt.proofs.StatementRows.{if_plain, repeat_plain, case_plain}
