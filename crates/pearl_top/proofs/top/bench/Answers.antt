use Rattle.std.proofs.Common.{subst, sym}
use Rattle.std.proofs.lemmas.Result.{err_from_is_err_and}
use Rattle.pearl_bench.specs.Texts.{source_of}
use Rattle.pearl_io.specs.Outside.{WriteFailed}
use Rattle.pearl_top.specs.BenchDue.{BenchDue, IsBench}
use Rattle.pearl_top.specs.CheckDue.{IsUnaccepted}
use Rattle.pearl_top.specs.Reading.{ASource}
use Rattle.pearl_top.proofs.SourceEnds.{cut_whole}
use Rattle.pearl_top.proofs.TakenLaws.{leaves_due}
use Rattle.pearl_top.proofs.top.bench.Goals as goal

pub returns-in_err-line-clause-ends : goal.returns-in_err-line-clause-ends
returns-in_err-line-clause-ends g c =
    let failed : Type 0 = WriteFailed (g.K.Sink.faults c.args.sink.now) (g.K.Sink.faults c.args.sink.now) (g.K.Sink.full c.args.sink.now) in
    let e = err_from_is_err_and c.from_residual.result c.from_residual.ensures.1 in
    rw (e.1, e.2) (leaves_due (g.K.Sink.taken c.args.sink.now) failed (BenchDue c.args.n) c.in_err-line.field-0.0 c.in_err-line.ensures.err)

pub returns-in_err-put_all-clause-ends : goal.returns-in_err-put_all-clause-ends
returns-in_err-put_all-clause-ends g c =
    let failed : Type 0 = WriteFailed (g.K.Sink.faults c.args.sink.now) (g.K.Sink.faults c.put_all.new.sink) (g.K.Sink.full c.put_all.new.sink) in
    let e = err_from_is_err_and c.from_residual-in_err-put_all.result c.from_residual-in_err-put_all.ensures.1 in
    rw (e.1, e.2) (cut_whole ASource (source_of c.args.n) c.as_slice.result.now (IsBench c.args.n) (IsUnaccepted (source_of c.args.n)) ⊥ failed
    (g.K.Sink.taken c.args.sink.now) (g.K.Sink.taken c.put_all.new.sink) c.in_err-put_all.ensures.cause
    (subst (IsBench c.args.n) (sym c.as_slice.ensures.value) c.in_ok-line.ensures.ok) c.in_err-put_all.ensures.err)
