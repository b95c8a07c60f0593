-- What other crates may cite of this crate's proofs.

-- lists in brackets, and behind a word: what other tokens can spell that begin as these do
pub use Rattle.pearl_parse_decl.proofs.Lists.{settled}
-- which tokens parts depend on: those before their end alone
pub use Rattle.pearl_parse_decl.proofs.Kept.{Keeps, Kept, local_of, after_of, each_keeps, some_keeps, list_keeps}
pub use Rattle.pearl_parse_decl.proofs.Kept.{each_long, list_long, contained_of, name_keeps}
pub use Rattle.pearl_parse_decl.proofs.Kept.{symbol_flag_keeps, maybe_keeps, maybe_bracketed_keeps, maybe_bracketed_long}
pub use Rattle.pearl_parse_decl.proofs.Kept.{whole_keeps, whole_typing_keeps, device_keeps}
pub use Rattle.pearl_parse_decl.proofs.Kept.{item_keeps, declared_keeps, spec_keeps, param_keeps, task_head_keeps}
pub use Rattle.pearl_parse_decl.proofs.Kept.{returns_keep}
