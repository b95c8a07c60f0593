use Rattle.std.proofs.Common.{sym, ap, ◌∙◌, ◌+◌}
use Rattle.pearl_rules.specs.Plans.{millisecond}
use Rattle.pearl_rules.proofs.Offered.{millisecond-length}
use Rattle.pearl_machine.proofs.Moments.{millisecond-moment}
use Rattle.pearl_instructions.specs.Setups.{setup_of}
use Rattle.pearl_kernel.specs.Kept.{Kept}
use Rattle.pearl_machine.proofs.Calls.{no_event, moment_call, changed_call, passes_call}
use Rattle.pearl_machine.proofs.machine.Machine.millisecond.Goals as goal

pub tick-requires-clause-told : goal.tick-requires-clause-told
tick-requires-clause-told c =
    let m = c.self.inside in
    no_event m.code m.setup m.kernel m.parts.items m.due c.self.invariant c.args.self.now c.self.view_is c.requires.taken

pub invariant_of-self : goal.invariant_of-self
invariant_of-self c =
    let m = c.self.inside in
    changed_call m.code m.setup m.kernel m.parts.items m.due c.self.invariant c.args.self.now c.self.view_is c.tick.new.self (millisecond m.kernel.core)
    c.laws_hold.ensures.laws c.requires.settled c.requires.taken (millisecond-length m.kernel.core) c.tick.ensures.passed
    (c.tick.ensures.lawful (setup_of m.code) c.self.invariant.lawful)

pub returns-clause-moment : goal.returns-clause-moment
returns-clause-moment c =
    let m = c.self.inside in
    ap (λ (x : Kept). x.core.moment) c.tick.ensures.passed ∙ millisecond-moment m.kernel.core ∙ ap (λ n. n + 1) (sym (moment_call m.code m.setup m.kernel m.parts.items m.due c.self.invariant c.args.self.now c.self.view_is))

pub returns-clause-passes : goal.returns-clause-passes
returns-clause-passes c =
    let m = c.self.inside in
    passes_call m.code m.setup m.kernel m.parts.items m.due c.self.invariant c.args.self.now c.self.view_is c.tick.new.self c.requires.settled c.requires.taken c.tick.ensures.passed
