use Rattle.std.proofs.Common.{◌≡◌, length, arith}
use Rattle.std.proofs.lemmas.Option.{slice_get-get_or}
use Rattle.pearl_kernel.proofs.Rows.{filled-none, filled-one, filled-all, filled-there}
use Rattle.pearl_kernel.proofs.recorded.timer_of.Goals as goal

pub loop-task-init : goal.loop-task-init
loop-task-init c = filled-none c.args.rows.now c.in_ok-timer.timer c.in_ok-timer.ensures

pub keep_row-requires-clause-continuations : goal.keep_row-requires-clause-continuations
keep_row-requires-clause-continuations c =
    let l = c.loop-task in (filled-there c.args.rows.now l.timer l.task l.invariant c.loop-task-test.true).0

pub keep_row-requires-clause-activations : goal.keep_row-requires-clause-activations
keep_row-requires-clause-activations c =
    let l = c.loop-task in (filled-there c.args.rows.now l.timer l.task l.invariant c.loop-task-test.true).1

pub loop-task-preserved : goal.loop-task-preserved
loop-task-preserved c =
    let l = c.loop-task in
    filled-one c.args.rows.now l.timer c.keep_row.new.timer l.task _ (slice_get-get_or c.args.rows.now l.task _ c.loop-task-test.true)
    l.invariant c.keep_row.ensures

pub returns : goal.returns
returns c =
    let l = c.loop-task in
    let end = l.auto.task-end in
    let all : l.task ≡ length c.args.rows.now = omega arith in
    filled-all c.args.rows.now l.timer l.task l.invariant all
