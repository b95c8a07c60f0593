use Rattle.std.proofs.Common.{sym, ap, ◌∙◌, subst}
use Rattle.pearl_rules.specs.Runs.{unsettled}
use Rattle.pearl_kernel.specs.Timing.{IsQuiet}
use Rattle.pearl_machine.specs.Seen.{Seen, Skips, PassesSome}
use Rattle.pearl_machine.proofs.Going.{some_skipped, one_millisecond}
use Rattle.pearl_machine.proofs.machine.Machine.pass_some.Goals as goal

pub skip-requires-clause-quiet : goal.skip-requires-clause-quiet
skip-requires-clause-quiet c =
    subst (λ (s : Seen). IsQuiet s.state.core c.quiet-quiet.result) (sym c.quiet-quiet.ensures.same) c.quiet-quiet.ensures.quiet

pub returns-then-quiet-gt0-clause-passes : goal.returns-then-quiet-gt0-clause-passes
returns-then-quiet-gt0-clause-passes c =
    some_skipped c.args.self.now c.skip.new.self c.quiet-quiet.result c.if-quiet-gt0.true
    (subst (λ (s : Seen). Skips s c.quiet-quiet.result c.skip.new.self) c.quiet-quiet.ensures.same c.skip.ensures)
    c.requires.settled c.requires.taken

pub returns-clause-passes : goal.returns-clause-passes
returns-clause-passes c =
    subst (λ (s : Seen). PassesSome s 1 c.millisecond.new.self) c.quiet-quiet.ensures.same
    (one_millisecond c.quiet-quiet.new.self c.millisecond.new.self c.millisecond.ensures.object c.millisecond.ensures.moment
    (ap (λ (s : Seen). unsettled s.state) c.quiet-quiet.ensures.same ∙ c.requires.settled) c.millisecond.ensures.passes)
