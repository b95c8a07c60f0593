use Rattle.std.proofs.Common.{◌+◌, ◌≤◌, ◌∙◌, length, refl, sym, ap, subst}
use Rattle.pearl_rules.specs.Entries.{last_moment_of_all}
use Rattle.pearl_kernel.specs.Kept.{Kept, IsLawful}
use Rattle.pearl_kernel.specs.Eligible.{IsStandOf}
use Rattle.pearl_kernel.proofs.Acting.{kept-moment}
use Rattle.pearl_kernel.proofs.Lawful.{lawful-moment, lawful-millisecond}
use Rattle.pearl_kernel.proofs.Serving.{millisecond-is, few-still}
use Rattle.pearl_kernel.proofs.kernel.Kernel.tick.Goals as goal

pub serve_due-requires-clause-stand : goal.serve_due-requires-clause-stand
serve_due-requires-clause-stand c =
    let s = c.self.inside in
    let of = c.self.invariant.lawful in
    let moment = s.state.core.moment + 1 in
    let later = subst (λ (k : Kept). k.core.moment + 1 ≤ last_moment_of_all) (sym c.self.view_is) c.requires.later in
    let whole = kept-moment of.0 s.state s.standing moment (lawful-moment of.0 s.state moment later of.1) c.self.invariant in
    subst (λ (k : Kept). IsStandOf k s.standing)
    (sym (c.set_moment.ensures ∙ ap (λ n. record s.state { core = record s.state.core { moment = n + 1 } }) c.now.ensures)) whole.stand

pub invariant_of-self : goal.invariant_of-self
invariant_of-self c =
    let s = c.self.inside.state in
    let of = c.self.invariant.lawful in
    let later = subst (λ (k : Kept). k.core.moment + 1 ≤ last_moment_of_all) (sym c.self.view_is) c.requires.later in
    let is = millisecond-is s c.set_moment.new.self c.serve_due.new.state c.now.result (c.now.result + 1) c.now.ensures refl c.set_moment.ensures c.serve_due.ensures.served in
    record {
      few = subst (λ (k : Kept). length k.core.tasks ≤ 200) (sym is) (few-still s.core c.self.invariant.few);
      lawful = (of.0, subst (λ (k : Kept). IsLawful of.0 k) (sym is) (lawful-millisecond c.cores_stay_recordable.ensures.passes of.0 s later of.1));
      stand = c.serve_due.ensures.stand;
    }

pub returns-clause-passed : goal.returns-clause-passed
returns-clause-passed c =
    let s = c.self.inside.state in
    millisecond-is c.args.self.now c.set_moment.new.self c.serve_due.new.state c.now.result (c.now.result + 1)
    (c.now.ensures ∙ ap (λ (k : Kept). k.core.moment) c.self.view_is) refl
    (c.set_moment.ensures ∙ ap (λ (k : Kept). record k { core = record k.core { moment = c.now.result + 1 } }) c.self.view_is) c.serve_due.ensures.served

pub returns-clause-lawful : goal.returns-clause-lawful
returns-clause-lawful c = λ setup lawful.
    let s = c.self.inside.state in
    let later = subst (λ (k : Kept). k.core.moment + 1 ≤ last_moment_of_all) (sym c.self.view_is) c.requires.later in
    let before = subst (λ (k : Kept). IsLawful setup k) (sym c.self.view_is) lawful in
    let is = millisecond-is s c.set_moment.new.self c.serve_due.new.state c.now.result (c.now.result + 1) c.now.ensures refl c.set_moment.ensures c.serve_due.ensures.served in
    subst (λ (k : Kept). IsLawful setup k) (sym is) (lawful-millisecond c.cores_stay_recordable.ensures.passes setup s later before)
