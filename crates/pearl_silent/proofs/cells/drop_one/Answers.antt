use Rattle.pearl_silent.specs.Steps.{told}
use Rattle.pearl_silent.proofs.Made.{same_does}
use Rattle.pearl_silent.proofs.Applied.{one_there}
use Rattle.pearl_silent.proofs.CellRows.{drop_is}
use Rattle.pearl_silent.proofs.cells.drop_one.Goals as goal

pub leave_none-requires-clause-there : goal.leave_none-requires-clause-there
leave_none-requires-clause-there c = one_there c.args.stack.now.frames _ c.args.stack.now.room c.requires.ready

pub returns : goal.returns
returns c = same_does _ _ c.args.stack.now c.leave_none.new.stack (told c.leave_none.result) (drop_is c.args.stack.now.frames c.args.stack.now.room c.requires.ready) c.leave_none.ensures
