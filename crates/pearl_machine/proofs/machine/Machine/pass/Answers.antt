use Rattle.std.proofs.Common.{◌-◌, ◌≤◌, [], ◌∷◌, ◌++◌, refl, ◌∙◌, subst, arith}
use Rattle.std.proofs.lemmas.Result.{err_from_is_err_and}
use Rattle.pearl_rules.specs.declared.entry.Entry.TheVariants.{Run, Pass}
use Rattle.pearl_instructions.specs.Setups.{setup_of}
use Rattle.pearl_io.specs.Outside.{Takes}
use Rattle.pearl_script.specs.Lines.{lines_of}
use Rattle.pearl_machine.proofs.Going.{handles_none, handles_then, handles_front, handles_passed}
use Rattle.pearl_machine.proofs.Taken.{takes_nothing, takes_lines}
use Rattle.pearl_machine.proofs.Entering.{pass_on, at_once_free}
use Rattle.pearl_machine.proofs.Last.{last_pass, last_behind, last_front}
use Rattle.pearl_machine.proofs.machine.Machine.pass.Goals as goal

pub loop-left-init : goal.loop-left-init
loop-left-init g c = record {
  object = refl;
  settled = c.requires.settled;
  taken = c.requires.taken;
  moment = refl;
  goes = ([], handles_none c.args.self.now (Pass c.args.times c.args.picks ∷ []), takes_nothing (g.K.Sink.taken c.args.sink.now));
  later = omega arith;
}

pub returns-clause-ok : goal.returns-clause-ok
returns-clause-ok g c =
    let i = c.loop-left.invariant in
    (i.goes.0, handles_passed c.args.self.now c.loop-left.self (Pass c.args.times c.args.picks ∷ []) c.loop-left.left c.args.picks i.goes.0 (omega arith) i.goes.1, i.goes.2)

pub returns-in_err-finish-clause-last : goal.returns-in_err-finish-clause-last
returns-in_err-finish-clause-last g c =
    let i = c.loop-left.invariant in
    let few : c.pass_some-left.result ≤ c.loop-left.left = omega (arith, c.pass_some-left.ensures.few, c.at_once.ensures.few) in
    let p = err_from_is_err_and c.from_residual.result c.from_residual.ensures.1 in
    rw p.1 (last_pass c.args.self.now c.loop-left.self c.pass_some-left.new.self c.finish.new.self (Pass c.args.times c.args.picks ∷ []) c.loop-left.left c.args.picks
    c.pass_some-left.result i.goes.0 (g.K.Sink.taken c.args.sink.now) (g.K.Sink.taken c.loop-left.sink) (g.K.Sink.taken c.finish.new.sink) i.object i.settled
    i.goes.1 few c.pass_some-left.ensures.passes c.in_err-finish.ensures.stays i.goes.2 c.in_err-finish.ensures.err)

pub returns-in_err-run-clause-last : goal.returns-in_err-run-clause-last
returns-in_err-run-clause-last g c =
    let i = c.loop-left.invariant in
    let a = c.args.self.now in
    let l = c.loop-left in
    let m = c.pass_some-left.new.self in
    let n = c.pass_some-left.result in
    let few : n ≤ l.left = omega (arith, c.pass_some-left.ensures.few, c.at_once.ensures.few) in
    let free = at_once_free l.self c.args.picks n c.at_once.result c.pass_some-left.ensures.passes.some c.pass_some-left.ensures.few c.at_once.ensures.free in
    let p = err_from_is_err_and c.from_residual-in_err-run.result c.from_residual-in_err-run.ensures.1 in
    let object = c.pass_some-left.ensures.passes.object ∙ i.object in
    let rest = Pass (l.left - n) c.args.picks ∷ [] in
    let told = i.goes.0 ++ m.state.core.told in
    rw p.1 (last_behind a c.finish.new.self c.run.new.self (Pass c.args.times c.args.picks ∷ []) (Run c.args.picks ∷ rest) told
    (g.K.Sink.taken c.args.sink.now) (g.K.Sink.taken c.finish.new.sink) (g.K.Sink.taken c.run.new.sink) (c.finish.ensures.object ∙ object)
    (c.finish.ensures.handles a (Pass c.args.times c.args.picks ∷ []) (Run c.args.picks ∷ rest) told object
    (pass_on a l.self m c.args.times c.args.picks l.left n i.goes.0 i.object few free i.goes.1 c.pass_some-left.ensures.passes))
    (takes_lines (setup_of a.object) (g.K.Sink.taken c.args.sink.now) (g.K.Sink.taken l.sink) (g.K.Sink.taken c.finish.new.sink) i.goes.0 m.state.core.told i.goes.2
    (subst (λ o. Takes (g.K.Sink.taken l.sink) (g.K.Sink.taken c.finish.new.sink) (lines_of (setup_of o) m.state.core.told)) object c.in_ok-finish.ensures.ok))
    (last_front c.finish.new.self c.run.new.self (Run c.args.picks ∷ []) rest (g.K.Sink.taken c.finish.new.sink) (g.K.Sink.taken c.run.new.sink)
    c.in_err-run.ensures.last))

pub loop-left-preserved : goal.loop-left-preserved
loop-left-preserved g c =
    let i = c.loop-left.invariant in
    let a = c.args.self.now in
    let l = c.loop-left in
    let m = c.pass_some-left.new.self in
    let n = c.pass_some-left.result in
    let run = c.in_ok-run.ensures.ok in
    let few : n ≤ l.left = omega (arith, c.pass_some-left.ensures.few, c.at_once.ensures.few) in
    let free = at_once_free l.self c.args.picks n c.at_once.result c.pass_some-left.ensures.passes.some c.pass_some-left.ensures.few c.at_once.ensures.free in
    let object = c.pass_some-left.ensures.passes.object ∙ i.object in
    let finished = c.finish.ensures.object ∙ object in
    let rest = Pass (l.left - n) c.args.picks ∷ [] in
    let told = i.goes.0 ++ m.state.core.told in
    record {
      object = c.run.ensures.object ∙ finished;
      settled = c.in_ok-run.ensures.settled;
      taken = c.in_ok-run.ensures.all;
      moment = omega (arith, i.moment, c.in_ok-run.ensures.moment, c.finish.ensures.moment, c.pass_some-left.ensures.passes.moment, few);
      goes = (
        told ++ run.0,
        handles_then a c.finish.new.self c.run.new.self (Pass c.args.times c.args.picks ∷ []) (Run c.args.picks ∷ rest) rest told run.0 finished
            (c.finish.ensures.handles a (Pass c.args.times c.args.picks ∷ []) (Run c.args.picks ∷ rest) told object
            (pass_on a l.self m c.args.times c.args.picks l.left n i.goes.0 i.object few free i.goes.1 c.pass_some-left.ensures.passes))
            (handles_front c.finish.new.self c.run.new.self (Run c.args.picks ∷ []) [] rest run.0 run.1),
        takes_lines (setup_of a.object) (g.K.Sink.taken c.args.sink.now) (g.K.Sink.taken c.finish.new.sink) (g.K.Sink.taken c.run.new.sink) told run.0
            (takes_lines (setup_of a.object) (g.K.Sink.taken c.args.sink.now) (g.K.Sink.taken l.sink) (g.K.Sink.taken c.finish.new.sink) i.goes.0 m.state.core.told i.goes.2
            (subst (λ o. Takes (g.K.Sink.taken l.sink) (g.K.Sink.taken c.finish.new.sink) (lines_of (setup_of o) m.state.core.told)) object c.in_ok-finish.ensures.ok))
            (subst (λ o. Takes (g.K.Sink.taken c.finish.new.sink) (g.K.Sink.taken c.run.new.sink) (lines_of (setup_of o) run.0)) finished run.2),
      );
      later = omega (arith, i.later, c.in_ok-finish.ensures.later, c.in_ok-run.ensures.later);
    }
