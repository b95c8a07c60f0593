-- What other crates may cite of this crate's proofs.

-- what a reference in an expression and its brackets spell, told by the lists that their fields show
pub use Rattle.pearl_tree.proofs.ExpressionLists.{selectors, subscripts, spells_subscripts, spells_ref, spells_limit}
-- what a STRUCT spells, told by the list of its fields
pub use Rattle.pearl_tree.proofs.TypeLists.{spells_struct}
-- what a statement with a body spells, told by the lists that its fields show
pub use Rattle.pearl_tree.proofs.StatementLists.{spells_if, spells_case, spells_begin, spells_repeat}
-- a tree that spells lawful tokens is lawful, and so is each part of one
pub use Rattle.pearl_tree.proofs.SpelledLawful.{spelled_lawful}
-- two literals that begin at the same token end at the same, or the shorter one before a token that lengthens it
pub use Rattle.pearl_tree.proofs.LiteralEnds.{literal_after}
-- each expression ends behind the token at which it begins
pub use Rattle.pearl_tree.proofs.ExpressionsForward.{monadics_after, terms_after, primary_after, selector_after}
-- where no expression begins
pub use Rattle.pearl_tree.proofs.OneSchedule.{no_expr_at}
-- what tokens spell is one statement: the same, and up to the same token, wherever the parts lie in memory
pub use Rattle.pearl_tree.proofs.OneStatement.{group_of}
-- what tokens spell is one declaration, and one module
pub use Rattle.pearl_tree.proofs.OneModule.{one_tree}
-- tokens have one first stop at most
pub use Rattle.pearl_tree.proofs.FirstStop.{one_stop, stops_have_no_tree}
-- the name of an identifier is an id as tables have it
pub use Rattle.pearl_tree.proofs.Ids.{ids_are_names}
-- what is broken has one list in order
pub use Rattle.pearl_tree.proofs.OneFaultList.{one_list}
