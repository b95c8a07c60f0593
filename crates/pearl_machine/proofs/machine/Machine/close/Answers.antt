use Rattle.std.proofs.Common.{ap, ◌∙◌, inl, inr}
use Rattle.std.proofs.lemmas.Result.{err_from_is_err_and}
use Rattle.pearl_script.specs.Lines.{close_line}
use Rattle.pearl_machine.proofs.Entering.{on_ok, on_err, closes_from, closed, closed_front, closed_cut, closed_left, closed_last}
use Rattle.pearl_machine.proofs.machine.Machine.close.Goals as goal

pub returns-in_err-tell-clause-handles : goal.returns-in_err-tell-clause-handles
returns-in_err-tell-clause-handles g c =
    closes_from _ _ _ _ c.settle.ensures.object c.settle.ensures.handles c.show.ensures.same c.in_err-tell.ensures.same

pub returns-clause-handles : goal.returns-clause-handles
returns-clause-handles g c =
    closes_from _ _ _ _ c.settle.ensures.object c.settle.ensures.handles c.show.ensures.same c.tell.ensures.same

pub returns-in_err-tell-clause-err : goal.returns-in_err-tell-clause-err
returns-in_err-tell-clause-err g c =
    let p = err_from_is_err_and c.from_residual.result c.from_residual.ensures.1 in
    rw p.1 (closed_cut c.args.self.now c.settle.new.self c.show.new.self c.tell.new.self c.settle.ensures.object c.show.ensures.same c.in_err-tell.ensures.same
    (g.K.Sink.taken c.args.sink.now) (g.K.Sink.taken c.tell.new.sink) c.in_err-tell.ensures.err)

pub returns-clause-ok : goal.returns-clause-ok
returns-clause-ok g c =
    on_ok c.put_all.result
    (closed c.args.self.now c.settle.new.self _ _ c.settle.ensures.object c.show.ensures.same c.tell.ensures.same
    (g.K.Sink.taken c.args.sink.now) (g.K.Sink.taken c.tell.new.sink) (g.K.Sink.taken c.put_all.new.sink) _ c.in_ok-tell.ensures.ok
    (c.as_slice.ensures.value ∙ (c.close_line.ensures ∙ ap close_line c.now.ensures))) c.put_all.ensures.ok

pub returns-clause-err : goal.returns-clause-err
returns-clause-err g c =
    on_err c.put_all.result
    (closed_front c.args.self.now c.settle.new.self _ _ c.settle.ensures.object c.show.ensures.same c.tell.ensures.same
    (g.K.Sink.taken c.args.sink.now) (g.K.Sink.taken c.tell.new.sink) (g.K.Sink.taken c.put_all.new.sink) _ c.in_ok-tell.ensures.ok
    (c.as_slice.ensures.value ∙ (c.close_line.ensures ∙ ap close_line c.now.ensures))) c.put_all.ensures.err

pub returns-in_err-tell-clause-left : goal.returns-in_err-tell-clause-left
returns-in_err-tell-clause-left g c =
    let p = err_from_is_err_and c.from_residual.result c.from_residual.ensures.1 in
    rw p.1 (inl (closed_left c.args.self.now c.settle.new.self c.show.new.self c.tell.new.self c.settle.ensures.object c.show.ensures.same c.in_err-tell.ensures.same
    (g.K.Sink.taken c.args.sink.now) (g.K.Sink.taken c.tell.new.sink) c.in_err-tell.ensures.err))

pub returns-clause-left : goal.returns-clause-left
returns-clause-left g c =
    on_err c.put_all.result
    (λ front. inr (closed_last c.args.self.now c.settle.new.self _ _ c.settle.ensures.object c.show.ensures.same c.tell.ensures.same
    (g.K.Sink.taken c.args.sink.now) (g.K.Sink.taken c.tell.new.sink) (g.K.Sink.taken c.put_all.new.sink) _ c.in_ok-tell.ensures.ok
    (c.as_slice.ensures.value ∙ (c.close_line.ensures ∙ ap close_line c.now.ensures)) front c.in_ok-tell.ensures.all)) c.put_all.ensures.err
