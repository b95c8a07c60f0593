use Rattle.pearl_exchange.specs.Offers.{action_of}
use Rattle.pearl_instructions.specs.Setups.{setup_of}
use Rattle.pearl_machine.proofs.ReadyLaws.{first_own}
use Rattle.pearl_machine.proofs.Entering.{ready_silent, ready_stepped}
use Rattle.pearl_machine.proofs.Calls.{first_of, some_first, silent_call, offers_call}
use Rattle.pearl_machine.proofs.machine.Machine.instruction.Goals as goal

pub unwrap-task-requires : goal.unwrap-task-requires
unwrap-task-requires c =
    let m = c.self.inside in
    some_first m.code m.setup m.kernel m.parts.items m.due c.self.invariant c.args.self.now c.self.view_is c.unsettled.result c.unsettled.ensures c.requires

pub step_part-requires-clause-own : goal.step_part-requires-clause-own
step_part-requires-clause-own c =
    let m = c.self.inside in
    first_own m.code m.setup m.kernel m.parts.items m.due c.self.invariant c.unwrap-task.result
    (first_of m.kernel c.unsettled.result c.unwrap-task.result c.unsettled.ensures c.unwrap-task.ensures)

pub invariant_of-self : goal.invariant_of-self
invariant_of-self c =
    let m = c.self.inside in
    ready_silent m.code m.setup m.kernel m.parts.items m.due c.self.invariant c.unwrap-task.result
    (first_of m.kernel c.unsettled.result c.unwrap-task.result c.unsettled.ensures c.unwrap-task.ensures) c.step_part.new.parts.items c.in-Silent.ensures.steps
    c.step_part.ensures.memory

pub invariant_of-self-in-Offered : goal.invariant_of-self-in-Offered
invariant_of-self-in-Offered c =
    let m = c.self.inside in
    ready_stepped m.code m.setup m.kernel m.parts.items m.due c.self.invariant c.unwrap-task.result
    (first_of m.kernel c.unsettled.result c.unwrap-task.result c.unsettled.ensures c.unwrap-task.ensures) c.offered.new.self c.step_part.new.parts.items
    (action_of c.step_part.new.into) c.in-Offered.ensures.steps c.step_part.ensures.memory c.offered.ensures.offers
    (c.offered.ensures.lawful (setup_of m.code) c.self.invariant.lawful c.in-Offered.ensures.fits)

pub returns-in-Silent : goal.returns-in-Silent
returns-in-Silent c =
    let m = c.self.inside in
    silent_call m.code m.setup m.kernel m.parts.items m.due c.self.invariant c.args.self.now c.self.view_is c.unwrap-task.result
    (first_of m.kernel c.unsettled.result c.unwrap-task.result c.unsettled.ensures c.unwrap-task.ensures) c.step_part.new.parts.items c.in-Silent.ensures.steps

pub returns-in-Offered : goal.returns-in-Offered
returns-in-Offered c =
    let m = c.self.inside in
    offers_call m.code m.setup m.kernel m.parts.items m.due c.self.invariant c.args.self.now c.self.view_is c.unwrap-task.result
    (first_of m.kernel c.unsettled.result c.unwrap-task.result c.unsettled.ensures c.unwrap-task.ensures) c.offered.new.self c.step_part.new.parts.items
    (action_of c.step_part.new.into) c.in-Offered.ensures.steps c.offered.ensures.offers
