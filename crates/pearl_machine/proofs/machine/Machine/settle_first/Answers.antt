use Rattle.std.proofs.Common.{ap, refl}
use Rattle.pearl_exchange.specs.Offers.{action_of}
use Rattle.pearl_instructions.specs.Engines.{stepped_by}
use Rattle.pearl_instructions.specs.Setups.{setup_of}
use Rattle.pearl_machine.proofs.ReadyLaws.{first_own, ready_offers}
use Rattle.pearl_machine.proofs.Calls.{none_unsettled, settles_call}
use Rattle.pearl_machine.proofs.machine.Machine.settle_first.Goals as goal

pub returns-in_default : goal.returns-in_default
returns-in_default c =
    let m = c.self.inside in
    (none_unsettled m.code m.setup m.kernel m.parts.items m.due c.self.invariant c.args.self.now c.self.view_is c.in_default.ensures, refl)

pub settle_part-requires-clause-own : goal.settle_part-requires-clause-own
settle_part-requires-clause-own c =
    let m = c.self.inside in
    first_own m.code m.setup m.kernel m.parts.items m.due c.self.invariant c.in-Some.task c.in-Some.ensures

pub invariant_of-self : goal.invariant_of-self
invariant_of-self c =
    let m = c.self.inside in
    let s = c.settle_part.ensures.settles in
    ready_offers m.code m.setup m.kernel m.parts.items m.due c.self.invariant c.in-Some.task c.in-Some.ensures c.offered.new.self c.settle_part.new.parts.items
    (action_of c.settle_part.new.into) s.after s.same s.own (ap stepped_by s.settles.offers) c.settle_part.ensures.memory c.offered.ensures.offers
    (c.offered.ensures.lawful (setup_of m.code) c.self.invariant.lawful c.settle_part.ensures.fits)

pub returns : goal.returns
returns c =
    let m = c.self.inside in
    settles_call m.code m.setup m.kernel m.parts.items m.due c.self.invariant c.args.self.now c.self.view_is c.in-Some.task c.in-Some.ensures c.offered.new.self
    c.settle_part.new.parts.items (action_of c.settle_part.new.into) c.settle_part.ensures.settles c.offered.ensures.offers
