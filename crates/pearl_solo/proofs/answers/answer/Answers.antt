use Rattle.std.proofs.Common.{◌≡◌, suc, ◌-◌, ◌≤◌, Some, length, sym, ap, ◌∙◌, subst, arith}
use Rattle.pearl_exchange.specs.Heard.{answer_of}
use Rattle.pearl_stack.specs.Frames.{Stack}
use Rattle.pearl_instructions.specs.Rows.{row, after}
use Rattle.pearl_instructions.specs.Stacks.{IsStack, task_of, room}
use Rattle.pearl_silent.specs.Standing.{act_on, instr_of}
use Rattle.pearl_silent.specs.Steps.{IsSizes}
use Rattle.pearl_solo.proofs.Answering.{kept_after, hears}
use Rattle.pearl_silent.proofs.Offered.{row_is, stands, frames_some, top_sizes, read_is}
use Rattle.pearl_solo.proofs.answers.answer.Goals as goal

pub hear_at-requires : goal.hear_at-requires
hear_at-requires c =
    let frames = c.args.stack.now.frames in
    let some = frames_some c.args.code.now frames c.requires.stack in
    let one : suc (c.frames.result - 1) ≡ length frames = omega (arith, c.frames.ensures, some) in
    let top : IsSizes c.frame-here.result frames = top_sizes c.args.code.now frames (c.frames.result - 1) c.frame-here.result c.requires.stack one c.frame-here.ensures in
    let there : instr_of c.args.code.now frames ≡ Some c.instr_at-instr.result.now = sym (read_is c.args.code.now frames c.frame-here.result top) ∙ c.instr_at-instr.ensures.instr in
    let is : row c.args.code.now frames ≡ act_on c.args.code.now c.instr_at-instr.result.now frames = row_is c.args.code.now frames c.instr_at-instr.result.now there in
    let at = stands c.laws_hold.ensures.laws c.args.code.now c.args.stack.now c.instr_at-instr.result.now c.frame-here.result c.laws_hold.ensures.valid c.laws_hold.ensures.object c.requires.stack c.requires.room
    (record { top = top; next = c.instr_at-instr.ensures.next }) there in
    hears c.laws_hold.ensures.laws c.args.code.now c.args.stack.now c.instr_at-instr.result.now c.frame-here.result (answer_of c.args.heard c.args.beside.now) c.laws_hold.ensures.valid c.laws_hold.ensures.object c.requires.stack c.requires.room
    c.requires.most is at c.requires.suits

pub returns-clause-after : goal.returns-clause-after
returns-clause-after c =
    let frames = c.args.stack.now.frames in
    let some = frames_some c.args.code.now frames c.requires.stack in
    let one : suc (c.frames.result - 1) ≡ length frames = omega (arith, c.frames.ensures, some) in
    let top : IsSizes c.frame-here.result frames = top_sizes c.args.code.now frames (c.frames.result - 1) c.frame-here.result c.requires.stack one c.frame-here.ensures in
    let there : instr_of c.args.code.now frames ≡ Some c.instr_at-instr.result.now = sym (read_is c.args.code.now frames c.frame-here.result top) ∙ c.instr_at-instr.ensures.instr in
    let is : row c.args.code.now frames ≡ act_on c.args.code.now c.instr_at-instr.result.now frames = row_is c.args.code.now frames c.instr_at-instr.result.now there in
    let now : c.hear_at.new.stack ≡ record c.args.stack.now { frames = after (row c.args.code.now frames) (answer_of c.args.heard c.args.beside.now) } =
    c.hear_at.ensures ∙ ap (λ r. record c.args.stack.now { frames = after r (answer_of c.args.heard c.args.beside.now) }) (sym is) in
    now

pub returns-clause-stack : goal.returns-clause-stack
returns-clause-stack c =
    let frames = c.args.stack.now.frames in
    let some = frames_some c.args.code.now frames c.requires.stack in
    let one : suc (c.frames.result - 1) ≡ length frames = omega (arith, c.frames.ensures, some) in
    let top : IsSizes c.frame-here.result frames = top_sizes c.args.code.now frames (c.frames.result - 1) c.frame-here.result c.requires.stack one c.frame-here.ensures in
    let there : instr_of c.args.code.now frames ≡ Some c.instr_at-instr.result.now = sym (read_is c.args.code.now frames c.frame-here.result top) ∙ c.instr_at-instr.ensures.instr in
    let is : row c.args.code.now frames ≡ act_on c.args.code.now c.instr_at-instr.result.now frames = row_is c.args.code.now frames c.instr_at-instr.result.now there in
    let now : c.hear_at.new.stack ≡ record c.args.stack.now { frames = after (row c.args.code.now frames) (answer_of c.args.heard c.args.beside.now) } =
    c.hear_at.ensures ∙ ap (λ r. record c.args.stack.now { frames = after r (answer_of c.args.heard c.args.beside.now) }) (sym is) in
    let kept = kept_after c.laws_hold.ensures.laws c.args.code.now c.args.stack.now (answer_of c.args.heard c.args.beside.now) c.laws_hold.ensures.valid c.laws_hold.ensures.object c.requires.stack c.requires.room c.requires.suits in
    subst (λ (s : Stack). IsStack c.args.code.now s.frames) (sym now) kept.stack

pub returns-clause-room : goal.returns-clause-room
returns-clause-room c =
    let frames = c.args.stack.now.frames in
    let some = frames_some c.args.code.now frames c.requires.stack in
    let one : suc (c.frames.result - 1) ≡ length frames = omega (arith, c.frames.ensures, some) in
    let top : IsSizes c.frame-here.result frames = top_sizes c.args.code.now frames (c.frames.result - 1) c.frame-here.result c.requires.stack one c.frame-here.ensures in
    let there : instr_of c.args.code.now frames ≡ Some c.instr_at-instr.result.now = sym (read_is c.args.code.now frames c.frame-here.result top) ∙ c.instr_at-instr.ensures.instr in
    let is : row c.args.code.now frames ≡ act_on c.args.code.now c.instr_at-instr.result.now frames = row_is c.args.code.now frames c.instr_at-instr.result.now there in
    let now : c.hear_at.new.stack ≡ record c.args.stack.now { frames = after (row c.args.code.now frames) (answer_of c.args.heard c.args.beside.now) } =
    c.hear_at.ensures ∙ ap (λ r. record c.args.stack.now { frames = after r (answer_of c.args.heard c.args.beside.now) }) (sym is) in
    let kept = kept_after c.laws_hold.ensures.laws c.args.code.now c.args.stack.now (answer_of c.args.heard c.args.beside.now) c.laws_hold.ensures.valid c.laws_hold.ensures.object c.requires.stack c.requires.room c.requires.suits in
    subst (λ (s : Stack). room c.args.code.now s.frames ≤ s.room) (sym now) kept.room

pub returns-clause-task : goal.returns-clause-task
returns-clause-task c =
    let frames = c.args.stack.now.frames in
    let some = frames_some c.args.code.now frames c.requires.stack in
    let one : suc (c.frames.result - 1) ≡ length frames = omega (arith, c.frames.ensures, some) in
    let top : IsSizes c.frame-here.result frames = top_sizes c.args.code.now frames (c.frames.result - 1) c.frame-here.result c.requires.stack one c.frame-here.ensures in
    let there : instr_of c.args.code.now frames ≡ Some c.instr_at-instr.result.now = sym (read_is c.args.code.now frames c.frame-here.result top) ∙ c.instr_at-instr.ensures.instr in
    let is : row c.args.code.now frames ≡ act_on c.args.code.now c.instr_at-instr.result.now frames = row_is c.args.code.now frames c.instr_at-instr.result.now there in
    let now : c.hear_at.new.stack ≡ record c.args.stack.now { frames = after (row c.args.code.now frames) (answer_of c.args.heard c.args.beside.now) } =
    c.hear_at.ensures ∙ ap (λ r. record c.args.stack.now { frames = after r (answer_of c.args.heard c.args.beside.now) }) (sym is) in
    let kept = kept_after c.laws_hold.ensures.laws c.args.code.now c.args.stack.now (answer_of c.args.heard c.args.beside.now) c.laws_hold.ensures.valid c.laws_hold.ensures.object c.requires.stack c.requires.room c.requires.suits in
    subst (λ (s : Stack). task_of c.args.code.now s.frames ≡ task_of c.args.code.now frames) (sym now) kept.task
