-- What other crates may cite of this crate's proofs.

-- what nodes show whose lists are fields
pub use Rattle.pearl_check_expr.proofs.Shown.{subscripts_shown, ref_shown, limit_shown}
