-- What other crates may cite of this crate's proofs.

-- the top frame of a stack, by its number and by its sizes
pub use Rattle.pearl_silent.proofs.Tops.{top_some, cells_count, within_some, own_cell_at, own_cell_set, cells_more}
pub use Rattle.pearl_silent.proofs.Tops.{without_some, pushed_some}
-- what is left where operands are taken off and what was made of them is pushed
pub use Rattle.pearl_silent.proofs.Made.{silent_does, made_room, same_applies, same_does, offers_does}
-- what is there where a row applies
pub use Rattle.pearl_silent.proofs.Applied.{given_some, needed_true, one_there, two_there, and_true}
-- the top operands in the order in which they were pushed
pub use Rattle.pearl_silent.proofs.InOrder.{take_last, one_more}
-- the rows of instructions on cells and operands, where they apply
pub use Rattle.pearl_silent.proofs.CellRows.{within_some as within_some_of_cell_rows, within_none}
-- cells that are written one after the other
pub use Rattle.pearl_silent.proofs.Filling.{KeepsRest, keeps_first, keeps_set, keeps_is, cells_set, Freshens}
pub use Rattle.pearl_silent.proofs.Filling.{freshens_first, freshens_more, freshens_all, all_given}
-- what holds where a stack stands at an instruction
pub use Rattle.pearl_silent.proofs.Standing.{does_as, ready_at}
-- a stack of a valid object stands at an instruction, and what a step leaves is again such a stack
pub use Rattle.pearl_silent.proofs.Stands.{row_is, room_of_task, row_stays, task_is, same_room, kept, same_task, keeps}
pub use Rattle.pearl_silent.proofs.Stands.{top_sizes, frames_some, read_is, stands}
-- what a run of silent rows keeps, and that it ends
pub use Rattle.pearl_silent.proofs.Settling.{rows_left, falls, Run, run_begins, run_goes, run_goes_on, within_all}
pub use Rattle.pearl_silent.proofs.Settling.{left_no_more}
