use Rattle.std.proofs.Common.{◌+◌, ◌≤◌, sym, subst, ap, ◌∙◌}
use Rattle.pearl_rules.specs.Core.{Core}
use Rattle.pearl_rules.specs.Entries.{last_moment_of_all}
use Rattle.pearl_kernel.specs.Kept.{Kept, IsLawful}
use Rattle.pearl_kernel.specs.Timing.{IsQuiet}
use Rattle.pearl_kernel.specs.Whole.{IsWhole}
use Rattle.pearl_kernel.proofs.Acting.{kept-moment}
use Rattle.pearl_kernel.proofs.Lawful.{lawful-moment, lawful-passed}
use Rattle.pearl_kernel.proofs.Passing.{passed-quiet}
use Rattle.pearl_kernel.proofs.kernel.Kernel.skip.Goals as goal

pub skip-requires-clause-quiet : goal.skip-requires-clause-quiet
skip-requires-clause-quiet c = subst (λ (k : Kept). IsQuiet k.core c.args.n) (sym c.self.view_is) c.requires.quiet

pub invariant_of-self : goal.invariant_of-self
invariant_of-self c =
    let s = c.self.inside in
    let of = c.self.invariant.lawful in
    let later = subst (λ (k : Kept). k.core.moment + c.args.n ≤ last_moment_of_all) (sym c.self.view_is) c.requires.later in
    let quiet = subst (λ (k : Kept). IsQuiet k.core c.args.n) (sym c.self.view_is) c.requires.quiet in
    let moment = s.state.core.moment + c.args.n in
    let is = c.skip.ensures ∙ ap (λ (core : Core). record s.state { core = core }) (passed-quiet c.args.n s.state.core quiet) in
    subst (λ (k : Kept). IsWhole k s.standing) (sym is)
    (kept-moment of.0 s.state s.standing moment (lawful-moment of.0 s.state moment later of.1) c.self.invariant)

pub returns-clause-lawful : goal.returns-clause-lawful
returns-clause-lawful c = λ setup lawful.
    let s = c.self.inside.state in
    let later = subst (λ (k : Kept). k.core.moment + c.args.n ≤ last_moment_of_all) (sym c.self.view_is) c.requires.later in
    let quiet = subst (λ (k : Kept). IsQuiet k.core c.args.n) (sym c.self.view_is) c.requires.quiet in
    let before = subst (λ (k : Kept). IsLawful setup k) (sym c.self.view_is) lawful in
    subst (λ (k : Kept). IsLawful setup k) (sym c.skip.ensures) (lawful-passed setup s c.args.n later quiet before)
