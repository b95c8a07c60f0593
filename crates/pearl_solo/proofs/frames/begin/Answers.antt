use Rattle.std.proofs.Common.{◌≡◌, ◌+◌, ◌-◌, ◌≤◌, [], ◌++◌, length, map, take, drop, sym, ap, ◌∙◌, subst, arith}
use Rattle.pearl_stack.specs.Frames.{Stack, entered}
use Rattle.pearl_instructions.specs.declared.object.Parts.{Parts as Object}
use Rattle.pearl_instructions.specs.Flow as flow
use Rattle.pearl_instructions.specs.Stacks.{IsStack, task_of, room}
use Rattle.pearl_silent.specs.Steps.{top_cells, with_cells}
use Rattle.pearl_solo.proofs.Begins.{starts}
use Rattle.pearl_solo.proofs.frames.begin.Goals as goal

pub task_routine-routine-requires-clause-procedures : goal.task_routine-routine-requires-clause-procedures
task_routine-routine-requires-clause-procedures c = c.laws_hold.ensures.object.few_procedures

pub task_routine-routine-requires-clause-task : goal.task_routine-routine-requires-clause-task
task_routine-routine-requires-clause-task c = omega (arith, c.requires.task, c.laws_hold.ensures.object.few_tasks)

pub overflow_cast-kinds : goal.overflow_cast-kinds
overflow_cast-kinds c =
    let at = starts c.args.code.now c.args.task c.task_kinds-kinds.result.now c.tasks_begin_with_a_stack.ensures c.laws_hold.ensures.laws.depth c.laws_hold.ensures.valid c.laws_hold.ensures.object c.task_kinds-kinds.ensures in
    omega (arith, at.few)

pub enter-requires-clause-room : goal.enter-requires-clause-room
enter-requires-clause-room c =
    let at = starts c.args.code.now c.args.task c.task_kinds-kinds.result.now c.tasks_begin_with_a_stack.ensures c.laws_hold.ensures.laws.depth c.laws_hold.ensures.valid c.laws_hold.ensures.object c.task_kinds-kinds.ensures in
    rw c.clear.ensures (omega (arith, at.fits, c.requires.room))

pub enter-requires-clause-frame : goal.enter-requires-clause-frame
enter-requires-clause-frame c = rw c.clear.ensures (omega (arith, c.requires.most))

pub set_fresh-requires-clause-kinds : goal.set_fresh-requires-clause-kinds
set_fresh-requires-clause-kinds c =
    (starts c.args.code.now c.args.task c.task_kinds-kinds.result.now c.tasks_begin_with_a_stack.ensures c.laws_hold.ensures.laws.depth c.laws_hold.ensures.valid c.laws_hold.ensures.object c.task_kinds-kinds.ensures).lawful

pub set_fresh-requires-clause-few : goal.set_fresh-requires-clause-few
set_fresh-requires-clause-few c =
    let at = starts c.args.code.now c.args.task c.task_kinds-kinds.result.now c.tasks_begin_with_a_stack.ensures c.laws_hold.ensures.laws.depth c.laws_hold.ensures.valid c.laws_hold.ensures.object c.task_kinds-kinds.ensures in
    omega (arith, at.few)

pub returns-clause-frames : goal.returns-clause-frames
returns-clause-frames c =
    let o : Object = c.args.code.now in
    let old : Stack = c.args.stack.now in
    let kinds = c.task_kinds-kinds.result.now in
    let r = length o.procedures + c.args.task in
    let at = starts o c.args.task kinds c.tasks_begin_with_a_stack.ensures c.laws_hold.ensures.laws.depth c.laws_hold.ensures.valid c.laws_hold.ensures.object c.task_kinds-kinds.ensures in
    let entering : c.enter.new.self ≡ record old { frames = entered r 0 (length kinds) [] } =
    c.enter.ensures ∙ (ap (λ (s : Stack). record s { frames = entered c.task_routine-routine.result 0 (length kinds) s.frames }) c.clear.ensures
    ∙ ap (λ r. record old { frames = entered r 0 (length kinds) [] }) c.task_routine-routine.ensures) in
    c.set_fresh.ensures
    ∙ (ap (λ (s : Stack). record s { frames = with_cells (take 0 (top_cells s.frames) ++ map flow.fresh (drop 0 kinds)) s.frames }) entering
    ∙ ap (λ fs. record old { frames = fs }) at.frames)

pub returns-clause-stack : goal.returns-clause-stack
returns-clause-stack c =
    let at = starts c.args.code.now c.args.task c.task_kinds-kinds.result.now c.tasks_begin_with_a_stack.ensures c.laws_hold.ensures.laws.depth c.laws_hold.ensures.valid c.laws_hold.ensures.object c.task_kinds-kinds.ensures in
    subst (λ (s : Stack). IsStack c.args.code.now s.frames) (sym (returns-clause-frames c)) at.stack

pub returns-clause-room : goal.returns-clause-room
returns-clause-room c = subst (λ (s : Stack). room c.args.code.now s.frames ≤ s.room) (sym (returns-clause-frames c)) c.requires.room

pub returns-clause-task : goal.returns-clause-task
returns-clause-task c =
    let o : Object = c.args.code.now in
    let same : (length o.procedures + c.args.task) - length o.procedures ≡ c.args.task = omega arith in
    ap (λ (s : Stack). task_of o s.frames) (returns-clause-frames c) ∙ same
