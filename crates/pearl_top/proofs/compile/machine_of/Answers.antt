use Rattle.std.proofs.Common.{sym, subst}
use Rattle.std.proofs.lemmas.Result.{err_from_is_err_and}
use Rattle.pearl_faithful.specs.Faithful.{IsFaithfulTo}
use Rattle.pearl_top.proofs.ObjectEnds.{only_memory}
use Rattle.pearl_top.proofs.compile.machine_of.Goals as goal

pub returns-in_err-machine-clause-err : goal.returns-in_err-machine-clause-err
returns-in_err-machine-clause-err c =
    let e = err_from_is_err_and c.from_residual-in_err-machine.result c.from_residual-in_err-machine.ensures.1 in
    rw (e.1, e.2) (only_memory c.args.source.now c.in_ok-object.object c.in_err-machine.field-0.0 c.in_ok-object.ensures.ok.faithful.valid c.in_err-machine.ensures.err)

pub returns-clause-ok : goal.returns-clause-ok
returns-clause-ok c =
    let made = c.in_ok-object.ensures.ok in
    let ready = c.in_ok-machine.ensures.ok in
    (made.p, made.is_source, record { faithful = subst (IsFaithfulTo made.p) (sym ready.is) made.faithful; ready = ready.ready })
