use Rattle.std.proofs.Common.{sym, subst}
use Rattle.std.proofs.lemmas.Result.{err_from_is_err_and}
use Rattle.pearl_top.specs.ObjectDue.{IsCodeOf}
use Rattle.pearl_top.proofs.ObjectEnds.{invalid, unexecuted}
use Rattle.pearl_top.proofs.object.machine_in.Goals as goal

pub returns-in_err-object-clause-err : goal.returns-in_err-object-clause-err
returns-in_err-object-clause-err c =
    let e = err_from_is_err_and c.from_residual.result c.from_residual.ensures.1 in
    rw (e.1, e.2) (unexecuted c.args.file.now c.in_err-object.field-0.0 c.in_err-object.ensures.err)

pub returns-in_err-machine-clause-err : goal.returns-in_err-machine-clause-err
returns-in_err-machine-clause-err c =
    let e = err_from_is_err_and c.from_residual-in_err-machine.result c.from_residual-in_err-machine.ensures.1 in
    rw (e.1, e.2) (invalid c.args.file.now c.in_ok-object.object c.in_err-machine.field-0.0 c.in_ok-object.ensures.ok c.in_err-machine.ensures.err)

pub returns-clause-code : goal.returns-clause-code
returns-clause-code c =
    let ready = c.in_ok-machine.ensures.ok in
    subst (IsCodeOf c.args.file.now) (sym ready.is) (record { is = c.in_ok-object.ensures.ok; valid = ready.valid })

pub returns-clause-ready : goal.returns-clause-ready
returns-clause-ready c = c.in_ok-machine.ensures.ok.ready
