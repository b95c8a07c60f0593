use Rattle.std.proofs.lemmas.Result.{err_from_is_err_and}
use Rattle.pearl_top.proofs.SourceEnds.{uncompiled}
use Rattle.pearl_top.proofs.compile.compiled.Goals as goal

pub returns-in_err-object-clause-err : goal.returns-in_err-object-clause-err
returns-in_err-object-clause-err c =
    let e = err_from_is_err_and c.from_residual.result c.from_residual.ensures.1 in
    rw (e.1, e.2) (uncompiled c.args.source.now c.in_err-object.field-0.0 c.in_err-object.ensures.err)

pub returns-clause-ok : goal.returns-clause-ok
returns-clause-ok c = record { o = c.in_ok-object.object; is = c.in_ok-object.ensures.ok; text = c.in_ok-bytes.ensures }
