use Rattle.std.proofs.Common.{◌-◌, [], ◌∷◌, ◌++◌, refl, ◌∙◌, subst, arith}
use Rattle.std.proofs.lemmas.Result.{err_from_is_err_and}
use Rattle.pearl_rules.specs.declared.entry.Entry.TheVariants.{Tick}
use Rattle.pearl_instructions.specs.Setups.{setup_of}
use Rattle.pearl_io.specs.Outside.{Takes}
use Rattle.pearl_script.specs.Lines.{lines_of}
use Rattle.pearl_machine.proofs.Going.{handles_none, handles_ticked}
use Rattle.pearl_machine.proofs.Taken.{takes_nothing, takes_lines}
use Rattle.pearl_machine.proofs.Entering.{tick_on}
use Rattle.pearl_machine.proofs.Last.{last_tick}
use Rattle.pearl_machine.proofs.machine.Machine.tick.Goals as goal

pub loop-left-init : goal.loop-left-init
loop-left-init g c = record {
  object = refl;
  settled = c.requires.settled;
  taken = c.requires.taken;
  moment = refl;
  goes = ([], handles_none c.args.self.now (Tick c.args.count ∷ []), takes_nothing (g.K.Sink.taken c.args.sink.now));
  later = omega arith;
}

pub returns-clause-ok : goal.returns-clause-ok
returns-clause-ok g c =
    let i = c.loop-left.invariant in
    (i.goes.0, handles_ticked c.args.self.now c.loop-left.self (Tick c.args.count ∷ []) c.loop-left.left i.goes.0 (omega arith) i.goes.1, i.goes.2)

pub returns-in_err-finish-clause-last : goal.returns-in_err-finish-clause-last
returns-in_err-finish-clause-last g c =
    let i = c.loop-left.invariant in
    let p = err_from_is_err_and c.from_residual.result c.from_residual.ensures.1 in
    rw p.1 (last_tick c.args.self.now c.loop-left.self c.pass_some-left.new.self c.finish.new.self (Tick c.args.count ∷ []) c.loop-left.left c.pass_some-left.result
    i.goes.0 (g.K.Sink.taken c.args.sink.now) (g.K.Sink.taken c.loop-left.sink) (g.K.Sink.taken c.finish.new.sink) i.object i.settled i.goes.1
    c.pass_some-left.ensures.few c.pass_some-left.ensures.passes c.in_err-finish.ensures.stays i.goes.2 c.in_err-finish.ensures.err)

pub loop-left-preserved : goal.loop-left-preserved
loop-left-preserved g c =
    let i = c.loop-left.invariant in
    let a = c.args.self.now in
    let m = c.pass_some-left.new.self in
    let n = c.pass_some-left.result in
    let told = i.goes.0 ++ m.state.core.told in
    let object = c.pass_some-left.ensures.passes.object ∙ i.object in
    record {
      object = c.finish.ensures.object ∙ object;
      settled = c.in_ok-finish.ensures.settled;
      taken = c.in_ok-finish.ensures.all;
      moment = omega (arith, i.moment, c.finish.ensures.moment, c.pass_some-left.ensures.passes.moment, c.pass_some-left.ensures.few);
      goes = (
        told,
        c.finish.ensures.handles a (Tick c.args.count ∷ []) (Tick (c.loop-left.left - n) ∷ []) told object
            (tick_on a c.loop-left.self m c.args.count c.loop-left.left n i.goes.0 i.object c.pass_some-left.ensures.few i.goes.1 c.pass_some-left.ensures.passes),
        takes_lines (setup_of a.object) (g.K.Sink.taken c.args.sink.now) (g.K.Sink.taken c.loop-left.sink) (g.K.Sink.taken c.finish.new.sink) i.goes.0 m.state.core.told i.goes.2
            (subst (λ o. Takes (g.K.Sink.taken c.loop-left.sink) (g.K.Sink.taken c.finish.new.sink) (lines_of (setup_of o) m.state.core.told)) object
            c.in_ok-finish.ensures.ok),
      );
      later = omega (arith, i.later, c.in_ok-finish.ensures.later);
    }
