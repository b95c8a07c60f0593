use Rattle.std.proofs.Common.{slice_get}
use Rattle.pearl_silent.specs.Steps.{told, top_cells}
use Rattle.pearl_silent.proofs.Made.{same_applies, same_does, made_room}
use Rattle.pearl_silent.proofs.CellRows.{load_there, load_is}
use Rattle.pearl_silent.proofs.Copies.{is_some}
use Rattle.pearl_silent.proofs.cells.load.Goals as goal

pub leave_cell-requires-clause-cell : goal.leave_cell-requires-clause-cell
leave_cell-requires-clause-cell c = load_there c.args.stack.now.frames c.args.c c.args.stack.now.room c.requires.ready

pub leave_cell-requires-clause-room : goal.leave_cell-requires-clause-room
leave_cell-requires-clause-room c =
    let frames = c.args.stack.now.frames in
    let x = is_some (slice_get (top_cells frames) c.args.c) (load_there frames c.args.c c.args.stack.now.room c.requires.ready) in
    made_room frames 0 c.args.stack.now.room x.0 (same_applies _ _ c.args.stack.now.room (load_is frames c.args.c x.0 x.1) c.requires.ready)

pub returns : goal.returns
returns c =
    let frames = c.args.stack.now.frames in
    let x = is_some (slice_get (top_cells frames) c.args.c) (load_there frames c.args.c c.args.stack.now.room c.requires.ready) in
    same_does _ _ c.args.stack.now c.leave_cell.new.stack (told c.leave_cell.result) (load_is frames c.args.c x.0 x.1) (c.leave_cell.ensures x.0 x.1)
