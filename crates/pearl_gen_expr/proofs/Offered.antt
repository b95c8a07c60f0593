-- What other crates may cite of this crate's proofs.

-- how code comes to an action: instruction by instruction, and part by part
pub use Rattle.pearl_gen_expr.proofs.Moves.{ComesFrom, by_row, further, missing_from, offered_from, stopped}
pub use Rattle.pearl_gen_expr.proofs.Moves.{stopped_from, frame_at, row_is, from_end, then_meets, bind_within}
pub use Rattle.pearl_gen_expr.proofs.Moves.{bind_meets, bind_carries, gives_carries, same_carries, RowMeets, row_within}
pub use Rattle.pearl_gen_expr.proofs.Moves.{instr_carries, missing_meets, goes_meets, silent_meets, heard_meets}
pub use Rattle.pearl_gen_expr.proofs.Moves.{stops_meets, given_meets, needed_meets, makes_meets, asks_meets}
-- what stands at a number of a program's table stands there in the object's
pub use Rattle.pearl_gen_expr.proofs.Tables.{leaf_is, slots_are, each, signature_is}
-- the offset that Index finds is the number of elements before the one that is named
pub use Rattle.pearl_gen_expr.proofs.Index.{taken_is, dropped_is}
-- the code of an expression does what the expression means
pub use Rattle.pearl_gen_expr.proofs.Expressions.{parted}
-- what is written to a variable is what is meant: it was taken before its value was made
pub use Rattle.pearl_gen_expr.proofs.Writing.{own_written, acts_meets, write_ref}
-- the code of expressions, calls and targets does what they mean
pub use Rattle.pearl_gen_expr.proofs.Whole.{expressions_carry}
-- parts of the code in which no rule fails, one behind the other
pub use Rattle.pearl_gen_expr.proofs.Shapes.{Fits, quiet_open, same_cell_self, and_is, or_is, same_shape_self}
pub use Rattle.pearl_gen_expr.proofs.Shapes.{judged_well, here_keeps, open_keeps, both_keep}
-- no rule of the validator fails at instructions of expressions, where the operands have the kinds that are needed
pub use Rattle.pearl_gen_expr.proofs.Fitting.{const_keeps, conv_keeps, load_keeps, cells_are_there, cells_are_uniform}
pub use Rattle.pearl_gen_expr.proofs.Fitting.{cells_are_plain, first_is_plain}
-- no rule of the validator fails at Index behind its subscripts, and at Call behind its arguments
pub use Rattle.pearl_gen_expr.proofs.Gathering.{handed_is, handed_back, handed_length, anything_asked}
-- no rule of the validator fails at the instructions that write a value to a variable
pub use Rattle.pearl_gen_expr.proofs.Storing.{write_at_keeps, write_ref_keeps, store_keeps, store_at_keeps}
-- a part's code ends where it begins or behind that, and an expression is one value at least
pub use Rattle.pearl_gen_expr.proofs.Forward.{expr_forward, all_forward, arguments_forward, some_values}
-- no rule of the validator fails in the code of an expression
pub use Rattle.pearl_gen_expr.proofs.Keeping.{literal_kind, some_elements, leaf_of, callee_of, nothing_keeps, then_one}
pub use Rattle.pearl_gen_expr.proofs.Keeping.{just_one, expressions_keep}
-- code that stands still stands when more is emitted behind it
pub use Rattle.pearl_gen_expr.proofs.Emitted.{extends_more, extends_one, still_is, last_is, one_longer, some_are}
-- what nodes of expressions say whose parts lie in boxes and lists
pub use Rattle.pearl_gen_expr.proofs.Nodes.{read_plain, call_plain, ident_plain}
