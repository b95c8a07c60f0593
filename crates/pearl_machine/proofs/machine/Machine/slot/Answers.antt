use Rattle.pearl_machine.proofs.Calls.{slot_there}
use Rattle.pearl_machine.proofs.machine.Machine.slot.Goals as goal

pub slot-requires : goal.slot-requires
slot-requires c =
    let m = c.self.inside in
    slot_there m.code m.setup m.kernel m.parts.items m.due c.self.invariant c.args.self.now c.self.view_is c.args.slot c.requires
