use Rattle.pearl_instructions.specs.Setups.{setup_of}
use Rattle.pearl_machine.proofs.Acting.{ready_turned}
use Rattle.pearl_machine.proofs.Calls.{turns_call, turned_call}
use Rattle.pearl_machine.proofs.machine.Machine.turn.Goals as goal

pub invariant_of-self : goal.invariant_of-self
invariant_of-self c =
    let m = c.self.inside in
    ready_turned m.code m.setup m.kernel c.turn.new.self m.parts.items m.due c.args.task c.self.invariant c.turn.ensures.turned
    (c.turn.ensures.lawful (setup_of m.code) c.self.invariant.lawful)

pub returns-clause-taken : goal.returns-clause-taken
returns-clause-taken c =
    let m = c.self.inside in
    turned_call m.code m.setup m.kernel m.parts.items m.due c.self.invariant c.args.self.now c.self.view_is c.turn.new.self c.args.task c.requires.taken c.turn.ensures.turned

pub returns-clause-turns : goal.returns-clause-turns
returns-clause-turns c =
    let m = c.self.inside in
    turns_call m.code m.setup m.kernel m.parts.items m.due c.self.invariant c.args.self.now c.self.view_is c.turn.new.self c.args.task c.requires.taken c.turn.ensures.turned
