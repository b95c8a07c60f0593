use Rattle.std.proofs.Common.{rules, ◌≡◌, ◌+◌, true, false, length, get_or, sym, ap, subst}
use Rattle.pearl_snap.specs.Asking.{Asks}
use Rattle.pearl_saved.specs.Rules.{HasStack}
use Rattle.pearl_snap.proofs.Asking.{too_many, goes_on, goes_wrong}
use Rattle.pearl_snap.proofs.stack_rule.ask_tasks.Goals as goal

pub returns-then-rows-stacks : goal.returns-then-rows-stacks
returns-then-rows-stacks c = too_many c.args.object.now c.args.rows.now c.args.stacks.now c.if-rows-stacks.true

pub returns-then-not-branch : goal.returns-then-not-branch
returns-then-not-branch c =
    let o = c.args.object.now in let old = c.args.asked.now.items in let now = c.loop-task.asked.items in let new = c.ask_task.new.asked.items in
    let rows = c.args.rows.now in let stacks = c.args.stacks.now in let task = c.loop-task.task in
    let row = c.index-rows-task.result in let frames = c.index-stacks-task.result in
    let no : c.in_ok-ask_task.field-0 ≡ false = search rules in
    let row_is : row ≡ get_or rows task row = search rules in
    let asks =
    subst (λ w. Asks o now new (HasStack o task w.standing c.as_slice-frames.result.now) c.in_ok-ask_task.field-0) (sym row_is)
    (c.in_ok-ask_task.ensures task (ap (λ ps. length ps + task) c.as_slice-procedures.ensures)) in
    goes_wrong o old now rows stacks task row frames (search rules) row_is (search rules) (search rules) new c.loop-task.invariant
    (subst (λ fs. Asks o now new (HasStack o task row.standing fs) false) c.as_slice-frames.ensures
    (subst (Asks o now new (HasStack o task row.standing c.as_slice-frames.result.now)) no asks))

pub loop-task-preserved : goal.loop-task-preserved
loop-task-preserved c =
    let o = c.args.object.now in let old = c.args.asked.now.items in let now = c.loop-task.asked.items in let new = c.ask_task.new.asked.items in
    let rows = c.args.rows.now in let stacks = c.args.stacks.now in let task = c.loop-task.task in
    let row = c.index-rows-task.result in let frames = c.index-stacks-task.result in
    let yes : c.in_ok-ask_task.field-0 ≡ true = search rules in
    let row_is : row ≡ get_or rows task row = search rules in
    let asks =
    subst (λ w. Asks o now new (HasStack o task w.standing c.as_slice-frames.result.now) c.in_ok-ask_task.field-0) (sym row_is)
    (c.in_ok-ask_task.ensures task (ap (λ ps. length ps + task) c.as_slice-procedures.ensures)) in
    goes_on o old now rows stacks task row frames (search rules) row_is (search rules) (search rules) new c.loop-task.invariant
    (subst (λ fs. Asks o now new (HasStack o task row.standing fs) true) c.as_slice-frames.ensures
    (subst (Asks o now new (HasStack o task row.standing c.as_slice-frames.result.now)) yes asks))
