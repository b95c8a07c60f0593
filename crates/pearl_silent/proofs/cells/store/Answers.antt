use Rattle.pearl_silent.specs.Steps.{told}
use Rattle.pearl_silent.proofs.Made.{same_does}
use Rattle.pearl_silent.proofs.Applied.{one_there}
use Rattle.pearl_silent.proofs.CellRows.{store_there, store_is}
use Rattle.pearl_silent.proofs.cells.store.Goals as goal

pub leave_stored-requires-clause-cell : goal.leave_stored-requires-clause-cell
leave_stored-requires-clause-cell c = store_there c.args.stack.now.frames c.args.c c.args.stack.now.room c.requires.ready

pub leave_stored-requires-clause-there : goal.leave_stored-requires-clause-there
leave_stored-requires-clause-there c = one_there c.args.stack.now.frames _ c.args.stack.now.room c.requires.ready

pub returns : goal.returns
returns c = same_does _ _ c.args.stack.now c.leave_stored.new.stack (told c.leave_stored.result) (store_is c.args.stack.now.frames c.args.c) c.leave_stored.ensures
