use Rattle.pearl_silent.specs.Steps.{told}
use Rattle.pearl_silent.proofs.Offered.{same_applies, same_does}
use Rattle.pearl_solo.proofs.VariableRows.{ref_slot_is}
use Rattle.pearl_solo.proofs.variables.ref_slot.Goals as goal

pub finish-requires-clause-ready : goal.finish-requires-clause-ready
finish-requires-clause-ready c =
    same_applies _ _ c.args.stack.now.room
    (ref_slot_is c.args.stack.now.frames c.args.here.now c.args.code.now c.args.v c.args.leaf.now c.args.first c.requires.here.top c.requires.leaf) c.requires.ready

pub returns : goal.returns
returns c =
    rw c.tell.ensures (same_does _ _ c.args.stack.now c.finish.new.stack (told c.finish.result)
    (ref_slot_is c.args.stack.now.frames c.args.here.now c.args.code.now c.args.v c.args.leaf.now c.args.first c.requires.here.top c.requires.leaf) c.finish.ensures)
