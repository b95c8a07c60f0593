use Rattle.std.proofs.Common.{◌∙◌}
use Rattle.pearl_machine.proofs.Going.{handles_on}
use Rattle.pearl_machine.proofs.Entering.{told_object, handles_written}
use Rattle.pearl_machine.proofs.machine.Machine.finish.Goals as goal

pub returns-in_err-tell-clause-handles : goal.returns-in_err-tell-clause-handles
returns-in_err-tell-clause-handles g c = λ a from left told object handles.
    handles_written a c.args.self.now c.tell.new.self from left told c.tell.ensures.same handles

pub returns-clause-handles : goal.returns-clause-handles
returns-clause-handles g c = λ a from left told object handles.
    handles_on a c.tell.new.self c.settle.new.self from left left told (told_object c.args.self.now c.tell.new.self c.tell.ensures.same ∙ object)
    (handles_written a c.args.self.now c.tell.new.self from left told c.tell.ensures.same handles) (c.settle.ensures.handles left)
