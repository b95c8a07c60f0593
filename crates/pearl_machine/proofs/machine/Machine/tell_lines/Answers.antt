use Rattle.std.proofs.Common.{◌∷◌, [], ◌++◌, refl, ap, ◌∙◌, arith}
use Rattle.std.proofs.lemmas.Result.{err_from_is_err_and}
use Rattle.pearl_instructions.specs.Setups.{setup_of}
use Rattle.pearl_script.specs.Lines.{report_line}
use Rattle.pearl_machine.specs.Seen.{Seen}
use Rattle.pearl_machine.proofs.Taken.{takes_nothing, takes_line, told_on, cut_here, retold_on}
use Rattle.pearl_machine.proofs.machine.Machine.tell_lines.Goals as goal

pub loop-line-init : goal.loop-line-init
loop-line-init g c = record { same = refl; goes = ([], refl, takes_nothing (g.K.Sink.taken c.args.sink.now)); known = tt; later = omega arith }

pub loop-line-preserved : goal.loop-line-preserved
loop-line-preserved g c =
    let i = c.loop-line.invariant in
    let next = c.loop-line-test.ensures.next in
    let object = ap (λ (s : Seen). s.object) i.same in
    record {
      same = retold_on c.args.self.now c.loop-line.self c.next_line.new.self i.same c.next_line.ensures.same;
      goes = (
        i.goes.0 ++ next.0 ∷ [],
        told_on c.args.self.now.state.core.told i.goes.0 c.loop-line.self.state.core.told c.next_line.new.self.state.core.told next.0 i.goes.1 next.1,
        takes_line (setup_of c.args.self.now.object) (g.K.Sink.taken c.args.sink.now) (g.K.Sink.taken c.loop-line.sink) (g.K.Sink.taken c.put_all.new.sink)
            i.goes.0 next.0 c.next_line.new.into.items (next.2 ∙ ap (λ o. report_line (setup_of o) next.0) object) i.goes.2
            (rw c.as_slice.ensures.value at c.in_ok-put_all.ensures.ok),
      );
      known = c.loop-line-test.ensures.known;
      later = omega (arith, i.later, c.in_ok-put_all.ensures.later);
    }

pub returns-in_err-put_all-clause-err : goal.returns-in_err-put_all-clause-err
returns-in_err-put_all-clause-err g c =
    let i = c.loop-line.invariant in
    let next = c.loop-line-test.ensures.next in
    let object = ap (λ (s : Seen). s.object) i.same in
    let p = err_from_is_err_and c.from_residual.result c.from_residual.ensures.1 in
    rw p.1 (cut_here (setup_of c.args.self.now.object) (g.K.Sink.taken c.args.sink.now) (g.K.Sink.taken c.loop-line.sink) (g.K.Sink.taken c.put_all.new.sink)
    c.args.self.now.state.core.told i.goes.0 c.loop-line.self.state.core.told c.next_line.new.self.state.core.told next.0 c.next_line.new.into.items
    i.goes.1 next.1 (next.2 ∙ ap (λ o. report_line (setup_of o) next.0) object) i.goes.2 (rw c.as_slice.ensures.value at c.in_err-put_all.ensures.err))
