use Rattle.std.proofs.Common.{◌-◌, [], ◌∷◌, ◌++◌, refl, ap, ◌∙◌, subst, arith}
use Rattle.std.proofs.lemmas.Result.{err_from_is_err_and}
use Rattle.pearl_rules.specs.declared.entry.Entry.TheVariants.{Run}
use Rattle.pearl_instructions.specs.Setups.{setup_of}
use Rattle.pearl_io.specs.Outside.{Takes}
use Rattle.pearl_script.specs.Lines.{lines_of}
use Rattle.pearl_machine.specs.Seen.{Seen}
use Rattle.pearl_machine.proofs.Going.{handles_none, handles_on, handles_idle, handles_done}
use Rattle.pearl_machine.proofs.Taken.{takes_nothing, takes_lines}
use Rattle.pearl_machine.proofs.Entering.{one_more, told_object}
use Rattle.pearl_machine.proofs.Last.{last_pick}
use Rattle.pearl_machine.proofs.machine.Machine.run.Goals as goal

pub loop-left-init : goal.loop-left-init
loop-left-init g c = record {
  object = refl;
  settled = c.requires.settled;
  taken = c.requires.taken;
  moment = refl;
  goes = ([], handles_none c.args.self.now (Run c.args.count ∷ []), takes_nothing (g.K.Sink.taken c.args.sink.now));
  later = omega arith;
}

pub returns-then-not-act-clause-ok : goal.returns-then-not-act-clause-ok
returns-then-not-act-clause-ok g c =
    let i = c.loop-left.invariant in
    let idle = c.if-not-act.ensures.acted in
    rw idle.1 (i.goes.0, handles_idle c.args.self.now c.loop-left.self (Run c.args.count ∷ []) c.loop-left.left i.goes.0 i.settled idle.0 i.goes.1, i.goes.2)

pub returns-clause-ok : goal.returns-clause-ok
returns-clause-ok g c =
    let i = c.loop-left.invariant in
    (i.goes.0, handles_done c.args.self.now c.loop-left.self (Run c.args.count ∷ []) c.loop-left.left i.goes.0 (omega arith) i.goes.1, i.goes.2)

pub returns-in_err-tell-clause-last : goal.returns-in_err-tell-clause-last
returns-in_err-tell-clause-last g c =
    let i = c.loop-left.invariant in
    let p = err_from_is_err_and c.from_residual.result c.from_residual.ensures.1 in
    rw p.1 (last_pick c.args.self.now c.loop-left.self c.act.new.self c.tell.new.self (Run c.args.count ∷ []) c.loop-left.left i.goes.0
    (g.K.Sink.taken c.args.sink.now) (g.K.Sink.taken c.loop-left.sink) (g.K.Sink.taken c.tell.new.sink) i.object c.if-not-act.ensures.object i.settled
    (omega arith) i.goes.1 c.if-not-act.ensures.acted c.in_err-tell.ensures.same i.goes.2 c.in_err-tell.ensures.err)

pub loop-left-preserved : goal.loop-left-preserved
loop-left-preserved g c =
    let i = c.loop-left.invariant in
    let told = i.goes.0 ++ c.act.new.self.state.core.told in
    let acted = c.if-not-act.ensures.object ∙ i.object in
    let object = told_object c.act.new.self c.tell.new.self c.in_ok-tell.ensures.same ∙ acted in
    record {
      object = c.settle.ensures.object ∙ object;
      settled = c.settle.ensures.settled;
      taken = c.settle.ensures.told ∙ c.in_ok-tell.ensures.all;
      moment = c.settle.ensures.moment ∙ (ap (λ (s : Seen). s.state.core.moment) c.in_ok-tell.ensures.same ∙ (c.if-not-act.ensures.moment ∙ i.moment));
      goes = (
        told,
        handles_on c.args.self.now c.tell.new.self c.settle.new.self (Run c.args.count ∷ []) (Run (c.loop-left.left - 1) ∷ []) (Run (c.loop-left.left - 1) ∷ []) told object
            (one_more c.args.self.now c.loop-left.self c.act.new.self c.tell.new.self c.args.count c.loop-left.left i.goes.0 i.object i.settled (omega arith) i.goes.1
            c.if-not-act.ensures.acted c.in_ok-tell.ensures.same)
            (c.settle.ensures.handles (Run (c.loop-left.left - 1) ∷ [])),
        takes_lines (setup_of c.args.self.now.object) (g.K.Sink.taken c.args.sink.now) (g.K.Sink.taken c.loop-left.sink) (g.K.Sink.taken c.tell.new.sink) i.goes.0
            c.act.new.self.state.core.told i.goes.2
            (subst (λ o. Takes (g.K.Sink.taken c.loop-left.sink) (g.K.Sink.taken c.tell.new.sink) (lines_of (setup_of o) c.act.new.self.state.core.told)) acted
            c.in_ok-tell.ensures.ok),
      );
      later = omega (arith, i.later, c.in_ok-tell.ensures.later);
    }

pub returns-then-not-act-clause-moment : goal.returns-then-not-act-clause-moment
returns-then-not-act-clause-moment g c = c.if-not-act.ensures.moment ∙ c.loop-left.invariant.moment

pub returns-clause-moment : goal.returns-clause-moment
returns-clause-moment g c = c.loop-left.invariant.moment
