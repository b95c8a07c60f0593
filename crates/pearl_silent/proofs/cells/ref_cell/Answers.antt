use Rattle.pearl_silent.specs.Steps.{told}
use Rattle.pearl_silent.proofs.Made.{same_applies, same_does}
use Rattle.pearl_silent.proofs.CellRows.{ref_cell_is}
use Rattle.pearl_silent.proofs.cells.ref_cell.Goals as goal

pub refer-requires-clause-ready : goal.refer-requires-clause-ready
refer-requires-clause-ready c = same_applies _ _ c.args.stack.now.room (ref_cell_is c.args.stack.now.frames c.args.c) c.requires.ready

pub returns : goal.returns
returns c = same_does _ _ c.args.stack.now c.refer.new.stack (told c.refer.result) (ref_cell_is c.args.stack.now.frames c.args.c) c.refer.ensures
