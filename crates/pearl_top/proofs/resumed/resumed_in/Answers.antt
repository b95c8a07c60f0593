use Rattle.std.proofs.Common.{arith}
use Rattle.std.proofs.lemmas.Result.{err_from_is_err_and}
use Rattle.pearl_top.proofs.ResumeLaws.{unrestored}
use Rattle.pearl_top.proofs.resumed.resumed_in.Goals as goal

pub returns-in_err-object-clause-err : goal.returns-in_err-object-clause-err
returns-in_err-object-clause-err c =
    let e = err_from_is_err_and c.from_residual.result c.from_residual.ensures.1 in
    rw (e.1, e.2) (unrestored c.args.file.now c.in_err-object.field-0.0 c.requires
    (λ i. omega (arith, c.type_inv.file i)) c.in_err-object.ensures.err)
