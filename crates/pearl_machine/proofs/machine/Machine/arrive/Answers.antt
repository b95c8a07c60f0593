use Rattle.std.proofs.Common.{sym, ap, ◌∙◌}
use Rattle.pearl_rules.specs.Devices.{arrived}
use Rattle.pearl_rules.proofs.Offered.{arrived-length}
use Rattle.pearl_instructions.specs.Setups.{setup_of}
use Rattle.pearl_kernel.specs.Kept.{Kept}
use Rattle.pearl_machine.proofs.Moments.{arrived-moment}
use Rattle.pearl_machine.proofs.Calls.{no_event, moment_call, changed_call, arrives_call, fits_call}
use Rattle.pearl_machine.proofs.machine.Machine.arrive.Goals as goal

pub input-requires-clause-told : goal.input-requires-clause-told
input-requires-clause-told c =
    let m = c.self.inside in
    no_event m.code m.setup m.kernel m.parts.items m.due c.self.invariant c.args.self.now c.self.view_is c.requires.taken

pub input-requires-clause-fits : goal.input-requires-clause-fits
input-requires-clause-fits c =
    let m = c.self.inside in
    (setup_of m.code, c.self.invariant.lawful, fits_call m.code m.setup m.kernel m.parts.items m.due c.self.invariant c.args.self.now c.self.view_is c.args.entry.now c.requires.fits)

pub invariant_of-self : goal.invariant_of-self
invariant_of-self c =
    let m = c.self.inside in
    changed_call m.code m.setup m.kernel m.parts.items m.due c.self.invariant c.args.self.now c.self.view_is c.input.new.self (arrived m.kernel.core c.args.entry.now)
    c.laws_hold.ensures.laws c.requires.settled c.requires.taken (arrived-length m.kernel.core c.args.entry.now) c.input.ensures.arrived
    (c.input.ensures.lawful (setup_of m.code) c.self.invariant.lawful (fits_call m.code m.setup m.kernel m.parts.items m.due c.self.invariant c.args.self.now c.self.view_is c.args.entry.now c.requires.fits))

pub returns-clause-moment : goal.returns-clause-moment
returns-clause-moment c =
    let m = c.self.inside in
    ap (λ (x : Kept). x.core.moment) c.input.ensures.arrived ∙ (arrived-moment m.kernel.core c.args.entry.now ∙ sym (moment_call m.code m.setup m.kernel m.parts.items m.due c.self.invariant c.args.self.now c.self.view_is))

pub returns-clause-arrives : goal.returns-clause-arrives
returns-clause-arrives c =
    let m = c.self.inside in
    arrives_call m.code m.setup m.kernel m.parts.items m.due c.self.invariant c.args.self.now c.self.view_is c.input.new.self c.args.entry.now c.requires.settled c.requires.taken c.input.ensures.arrived
