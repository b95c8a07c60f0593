use Rattle.std.proofs.Common.{◌∙◌, ap, subst}
use Rattle.std.proofs.lemmas.Result.{err_from_is_err_and}
use Rattle.pearl_bench.specs.Counts.{summary_of}
use Rattle.pearl_top.specs.BenchDue.{IsWorked}
use Rattle.pearl_top.proofs.BenchEnds.{bench_refused}
use Rattle.pearl_top.proofs.bench.bench_line.Goals as goal

pub returns-in_err-sink-clause-err : goal.returns-in_err-sink-clause-err
returns-in_err-sink-clause-err c =
    let e = err_from_is_err_and c.from_residual-in_err-sink.result c.from_residual-in_err-sink.ensures.1 in
    rw (e.1, e.2) (bench_refused c.args.n c.as_slice.result.now c.in_err-sink.field-0.0 (c.as_slice.ensures.value ∙ c.in_ok-source.ensures.text) c.in_err-sink.ensures.err)

pub returns-clause-ok : goal.returns-clause-ok
returns-clause-ok c = record {
  transcript = c.in_ok-sink.sink.bytes;
  worked = subst (λ source. IsWorked source c.in_ok-sink.sink.bytes) (c.as_slice.ensures.value ∙ c.in_ok-source.ensures.text) c.in_ok-sink.ensures.ok;
  text = c.summary.ensures ∙ ap (summary_of c.args.n) c.bytes.ensures;
}
