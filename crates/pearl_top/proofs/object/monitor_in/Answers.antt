use Rattle.std.proofs.Common.{ap, map, subst, string_bytes, sym}
use Rattle.std.proofs.lemmas.Result.{err_from_is_err_and}
use Rattle.pearl_top.specs.declared.failure.Failure.TheVariants as failure
use Rattle.pearl_top.specs.Failures.{verify_refusal}
use Rattle.pearl_top.specs.Ready.{RunsByRules}
use Rattle.pearl_top.proofs.ObjectEnds.{invalid, unexecuted}
use Rattle.pearl_top.proofs.WatchLaws.{at_names, at_object, can_be_watched, is_watching}
use Rattle.pearl_top.proofs.object.monitor_in.Goals as goal

pub returns-in_err-object-clause-err : goal.returns-in_err-object-clause-err
returns-in_err-object-clause-err c =
    let e = err_from_is_err_and c.from_residual.result c.from_residual.ensures.1 in
    rw (e.1, e.2) (at_object c.args.file.now (map string_bytes c.args.names.now) c.in_err-object.field-0.0
    (unexecuted c.args.file.now c.in_err-object.field-0.0 c.in_err-object.ensures.err))

pub returns-in_err-code-clause-err : goal.returns-in_err-code-clause-err
returns-in_err-code-clause-err c =
    let e = err_from_is_err_and c.from_residual-in_err-code.result c.from_residual-in_err-code.ensures.1 in
    rw (e.1, e.2) (at_object c.args.file.now (map string_bytes c.args.names.now) (failure.Refused (verify_refusal c.in_err-code.field-0.0))
    (invalid c.args.file.now c.in_ok-object.object c.in_err-code.field-0.0 c.in_ok-object.ensures.ok c.in_err-code.ensures.err))

pub returns-in_err-monitor-clause-err : goal.returns-in_err-monitor-clause-err
returns-in_err-monitor-clause-err c =
    let valid = c.in_ok-code.ensures.ok in
    let e = err_from_is_err_and c.from_residual-in_err-monitor.result c.from_residual-in_err-monitor.ensures.1 in
    rw (e.1, e.2) (at_names c.args.file.now (map string_bytes c.args.names.now) c.in_ok-object.object c.in_ok-code.code c.in_err-monitor.field-0.0 c.in_ok-object.ensures.ok
    valid.1 valid.0 c.in_err-monitor.ensures.cause)

pub returns-clause-object : goal.returns-clause-object
returns-clause-object c =
    let valid = c.in_ok-code.ensures.ok in
    can_be_watched c.args.file.now (map string_bytes c.args.names.now) c.in_ok-object.object c.in_ok-code.code c.in_ok-monitor.monitor c.in_ok-object.ensures.ok
    valid.1 valid.0 c.in_ok-monitor.ensures.accepted c.in_ok-monitor.ensures.start

pub returns-clause-names : goal.returns-clause-names
returns-clause-names c = ap (λ w. w.names) c.in_ok-monitor.ensures.watch

pub returns-clause-ready : goal.returns-clause-ready
returns-clause-ready c =
    let valid = c.in_ok-code.ensures.ok in
    is_watching c.in_ok-code.code (map string_bytes c.args.names.now) c.in_ok-monitor.monitor
    (subst RunsByRules (sym valid.0) (c.valid_objects_run.ensures c.in_ok-object.object valid.1 c.in_ok-object.ensures.ok.lawful))
    c.in_ok-monitor.ensures.watch c.in_ok-monitor.ensures.core c.in_ok-monitor.ensures.marks c.in_ok-monitor.ensures.settled c.in_ok-monitor.ensures.start
