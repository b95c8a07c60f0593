use Rattle.std.proofs.Common.{length, ap}
use Rattle.pearl_rules.specs.Core.{Core}
use Rattle.pearl_instructions.specs.Setups.{setup_of}
use Rattle.pearl_rules.specs.Laws.{passed}
use Rattle.pearl_kernel.proofs.Offered.{passed-quiet}
use Rattle.pearl_machine.proofs.Calls.{no_event, quiet_back, skips_call, changed_call}
use Rattle.pearl_machine.proofs.machine.Machine.skip.Goals as goal

pub skip-requires-clause-told : goal.skip-requires-clause-told
skip-requires-clause-told c =
    let m = c.self.inside in
    no_event m.code m.setup m.kernel m.parts.items m.due c.self.invariant c.args.self.now c.self.view_is c.requires.taken

pub skip-requires-clause-quiet : goal.skip-requires-clause-quiet
skip-requires-clause-quiet c =
    let m = c.self.inside in
    quiet_back m.code m.setup m.kernel m.parts.items m.due c.self.invariant c.args.self.now c.self.view_is c.args.n c.requires.quiet

pub invariant_of-self : goal.invariant_of-self
invariant_of-self c =
    let m = c.self.inside in
    let quiet = quiet_back m.code m.setup m.kernel m.parts.items m.due c.self.invariant c.args.self.now c.self.view_is c.args.n c.requires.quiet in
    changed_call m.code m.setup m.kernel m.parts.items m.due c.self.invariant c.args.self.now c.self.view_is c.skip.new.self (passed c.args.n m.kernel.core)
    c.laws_hold.ensures.laws c.requires.settled c.requires.taken (ap (λ (x : Core). length x.tasks) (passed-quiet c.args.n m.kernel.core quiet)) c.skip.ensures.passed
    (c.skip.ensures.lawful (setup_of m.code) c.self.invariant.lawful)

pub returns : goal.returns
returns c =
    let m = c.self.inside in
    skips_call m.code m.setup m.kernel m.parts.items m.due c.self.invariant c.args.self.now c.self.view_is c.skip.new.self c.args.n c.requires.settled c.requires.taken c.requires.quiet c.skip.ensures.passed
