use Rattle.std.proofs.Common.{◌+◌, ◌<◌, ◌≤◌, length, sym, ap, ◌∙◌, subst}
use Rattle.pearl_exchange.specs.Heard.{answer_of}
use Rattle.pearl_stack.specs.Frames.{Stack, top_operands}
use Rattle.pearl_instructions.specs.declared.instr.Reading.{Reading}
use Rattle.pearl_instructions.specs.declared.instr.Instr.TheVariants.{Read, ReadAt, ReadRef, Now, Try, Take}
use Rattle.pearl_instructions.specs.Rows.{after}
use Rattle.pearl_instructions.specs.Stacks.{task_of}
use Rattle.pearl_instructions.specs.Steps.{all_heard}
use Rattle.pearl_solo.specs.Answered.{CanHear, gone_on, taken_of}
use Rattle.pearl_solo.specs.Hearing.{read_on}
use Rattle.pearl_silent.specs.Standing.{act_on}
use Rattle.pearl_silent.specs.Steps.{top_cells}
use Rattle.pearl_solo.proofs.Answering.{value_at, on_at, reads_on, has_format}
use Rattle.pearl_solo.proofs.Hearing.{goes_after, read_after, read_at_after, read_ref_after, now_after, try_after, take_after}
use Rattle.pearl_solo.proofs.answers.hear_at.Goals as goal

pub hear_all-requires-clause-there : goal.hear_all-requires-clause-there
hear_all-requires-clause-there c =
    let frames = c.args.stack.now.frames in
    let suits = subst (λ i. CanHear c.args.code.now (task_of c.args.code.now frames) (act_on c.args.code.now i frames) (answer_of c.args.heard c.args.beside.now)) c.in-Get.is c.requires.suits in
    subst (λ (r : Reading). 0 < length (all_heard (answer_of c.args.heard c.args.beside.now)) → r.first + length (all_heard (answer_of c.args.heard c.args.beside.now)) ≤ length (top_cells frames)) (sym c.get.ensures)
    (reads_on c.args.code.now c.in-Get.reading frames (answer_of c.args.heard c.args.beside.now) suits).fits

pub returns-in-Get : goal.returns-in-Get
returns-in-Get c =
    let old : Stack = c.args.stack.now in
    let suits = subst (λ i. CanHear c.args.code.now (task_of c.args.code.now old.frames) (act_on c.args.code.now i old.frames) (answer_of c.args.heard c.args.beside.now)) c.in-Get.is c.requires.suits in
    c.hear_all.ensures ∙ (ap (λ (r : Reading). record old { frames = read_on r.first (all_heard (answer_of c.args.heard c.args.beside.now)) old.frames }) c.get.ensures
    ∙ ap (λ fs. record old { frames = fs }) (sym (ap (λ i. after (act_on c.args.code.now i old.frames) (answer_of c.args.heard c.args.beside.now)) c.in-Get.is ∙ (reads_on c.args.code.now c.in-Get.reading old.frames (answer_of c.args.heard c.args.beside.now) suits).is)))

pub taken_by-taken-requires : goal.taken_by-taken-requires
taken_by-taken-requires c = has_format c.args.code.now c.args.instr.now c.args.here.now c.args.stack.now c.requires.at

pub go_on-requires-clause-there : goal.go_on-requires-clause-there
go_on-requires-clause-there c =
    subst (λ n. n ≤ length (top_operands c.args.stack.now.frames)) (sym c.taken_by-taken.ensures)
    (on_at c.args.code.now c.args.instr.now (taken_of c.args.code.now c.args.instr.now) c.args.here.now c.args.stack.now (answer_of c.args.heard c.args.beside.now) (λ f lower. goes_after c.args.code.now f lower c.args.instr.now c.in_default.not-Read c.in_default.not-ReadAt c.in_default.not-ReadRef c.in_default.not-Now c.in_default.not-Try c.in_default.not-Take c.in_default.not-Call c.in_default.not-Get) c.requires).there

pub returns-in_default : goal.returns-in_default
returns-in_default c =
    let old : Stack = c.args.stack.now in
    c.go_on.ensures ∙ (ap (λ n. record old { frames = gone_on n old.frames }) c.taken_by-taken.ensures
    ∙ ap (λ fs. record old { frames = fs }) (sym (on_at c.args.code.now c.args.instr.now (taken_of c.args.code.now c.args.instr.now) c.args.here.now c.args.stack.now (answer_of c.args.heard c.args.beside.now) (λ f lower. goes_after c.args.code.now f lower c.args.instr.now c.in_default.not-Read c.in_default.not-ReadAt c.in_default.not-ReadRef c.in_default.not-Now c.in_default.not-Try c.in_default.not-Take c.in_default.not-Call c.in_default.not-Get) c.requires).is))

pub returns-in-Read : goal.returns-in-Read
returns-in-Read c =
    let old : Stack = c.args.stack.now in
    c.hear.ensures ∙ ap (λ fs. record old { frames = fs }) (sym (value_at c.args.code.now c.args.instr.now (Read c.in-Read.field-0) 0 c.args.here.now old (answer_of c.args.heard c.args.beside.now) c.in-Read.is (λ f lower. read_after c.args.code.now f lower c.in-Read.field-0) c.requires).is)

pub hear-requires-clause-there : goal.hear-requires-clause-there
hear-requires-clause-there c = (value_at c.args.code.now c.args.instr.now (Read c.in-Read.field-0) 0 c.args.here.now c.args.stack.now (answer_of c.args.heard c.args.beside.now) c.in-Read.is (λ f lower. read_after c.args.code.now f lower c.in-Read.field-0) c.requires).there

pub hear-requires-clause-room : goal.hear-requires-clause-room
hear-requires-clause-room c = (value_at c.args.code.now c.args.instr.now (Read c.in-Read.field-0) 0 c.args.here.now c.args.stack.now (answer_of c.args.heard c.args.beside.now) c.in-Read.is (λ f lower. read_after c.args.code.now f lower c.in-Read.field-0) c.requires).room

pub returns-in-ReadAt : goal.returns-in-ReadAt
returns-in-ReadAt c =
    let old : Stack = c.args.stack.now in
    c.hear-in-ReadAt.ensures ∙ ap (λ fs. record old { frames = fs }) (sym (value_at c.args.code.now c.args.instr.now (ReadAt c.in-ReadAt.field-0) 1 c.args.here.now old (answer_of c.args.heard c.args.beside.now) c.in-ReadAt.is (λ f lower. read_at_after c.args.code.now f lower c.in-ReadAt.field-0) c.requires).is)

pub hear-requires-in-ReadAt-clause-there : goal.hear-requires-in-ReadAt-clause-there
hear-requires-in-ReadAt-clause-there c = (value_at c.args.code.now c.args.instr.now (ReadAt c.in-ReadAt.field-0) 1 c.args.here.now c.args.stack.now (answer_of c.args.heard c.args.beside.now) c.in-ReadAt.is (λ f lower. read_at_after c.args.code.now f lower c.in-ReadAt.field-0) c.requires).there

pub hear-requires-in-ReadAt-clause-room : goal.hear-requires-in-ReadAt-clause-room
hear-requires-in-ReadAt-clause-room c = (value_at c.args.code.now c.args.instr.now (ReadAt c.in-ReadAt.field-0) 1 c.args.here.now c.args.stack.now (answer_of c.args.heard c.args.beside.now) c.in-ReadAt.is (λ f lower. read_at_after c.args.code.now f lower c.in-ReadAt.field-0) c.requires).room

pub returns-in-ReadRef : goal.returns-in-ReadRef
returns-in-ReadRef c =
    let old : Stack = c.args.stack.now in
    c.hear-in-ReadRef.ensures ∙ ap (λ fs. record old { frames = fs }) (sym (value_at c.args.code.now c.args.instr.now ReadRef 1 c.args.here.now old (answer_of c.args.heard c.args.beside.now) c.in-ReadRef.is (λ f lower. read_ref_after c.args.code.now f lower) c.requires).is)

pub hear-requires-in-ReadRef-clause-there : goal.hear-requires-in-ReadRef-clause-there
hear-requires-in-ReadRef-clause-there c = (value_at c.args.code.now c.args.instr.now ReadRef 1 c.args.here.now c.args.stack.now (answer_of c.args.heard c.args.beside.now) c.in-ReadRef.is (λ f lower. read_ref_after c.args.code.now f lower) c.requires).there

pub hear-requires-in-ReadRef-clause-room : goal.hear-requires-in-ReadRef-clause-room
hear-requires-in-ReadRef-clause-room c = (value_at c.args.code.now c.args.instr.now ReadRef 1 c.args.here.now c.args.stack.now (answer_of c.args.heard c.args.beside.now) c.in-ReadRef.is (λ f lower. read_ref_after c.args.code.now f lower) c.requires).room

pub returns-in-Now : goal.returns-in-Now
returns-in-Now c =
    let old : Stack = c.args.stack.now in
    c.hear-in-Now.ensures ∙ ap (λ fs. record old { frames = fs }) (sym (value_at c.args.code.now c.args.instr.now Now 0 c.args.here.now old (answer_of c.args.heard c.args.beside.now) c.in-Now.is (λ f lower. now_after c.args.code.now f lower) c.requires).is)

pub hear-requires-in-Now-clause-there : goal.hear-requires-in-Now-clause-there
hear-requires-in-Now-clause-there c = (value_at c.args.code.now c.args.instr.now Now 0 c.args.here.now c.args.stack.now (answer_of c.args.heard c.args.beside.now) c.in-Now.is (λ f lower. now_after c.args.code.now f lower) c.requires).there

pub hear-requires-in-Now-clause-room : goal.hear-requires-in-Now-clause-room
hear-requires-in-Now-clause-room c = (value_at c.args.code.now c.args.instr.now Now 0 c.args.here.now c.args.stack.now (answer_of c.args.heard c.args.beside.now) c.in-Now.is (λ f lower. now_after c.args.code.now f lower) c.requires).room

pub returns-in-Try : goal.returns-in-Try
returns-in-Try c =
    let old : Stack = c.args.stack.now in
    c.hear-in-Try.ensures ∙ ap (λ fs. record old { frames = fs }) (sym (value_at c.args.code.now c.args.instr.now (Try c.in-Try.field-0) 0 c.args.here.now old (answer_of c.args.heard c.args.beside.now) c.in-Try.is (λ f lower. try_after c.args.code.now f lower c.in-Try.field-0) c.requires).is)

pub hear-requires-in-Try-clause-there : goal.hear-requires-in-Try-clause-there
hear-requires-in-Try-clause-there c = (value_at c.args.code.now c.args.instr.now (Try c.in-Try.field-0) 0 c.args.here.now c.args.stack.now (answer_of c.args.heard c.args.beside.now) c.in-Try.is (λ f lower. try_after c.args.code.now f lower c.in-Try.field-0) c.requires).there

pub hear-requires-in-Try-clause-room : goal.hear-requires-in-Try-clause-room
hear-requires-in-Try-clause-room c = (value_at c.args.code.now c.args.instr.now (Try c.in-Try.field-0) 0 c.args.here.now c.args.stack.now (answer_of c.args.heard c.args.beside.now) c.in-Try.is (λ f lower. try_after c.args.code.now f lower c.in-Try.field-0) c.requires).room

pub returns-in-Take : goal.returns-in-Take
returns-in-Take c =
    let old : Stack = c.args.stack.now in
    c.hear-in-Take.ensures ∙ ap (λ fs. record old { frames = fs }) (sym (value_at c.args.code.now c.args.instr.now (Take c.in-Take.field-0) 0 c.args.here.now old (answer_of c.args.heard c.args.beside.now) c.in-Take.is (λ f lower. take_after c.args.code.now f lower c.in-Take.field-0) c.requires).is)

pub hear-requires-in-Take-clause-there : goal.hear-requires-in-Take-clause-there
hear-requires-in-Take-clause-there c = (value_at c.args.code.now c.args.instr.now (Take c.in-Take.field-0) 0 c.args.here.now c.args.stack.now (answer_of c.args.heard c.args.beside.now) c.in-Take.is (λ f lower. take_after c.args.code.now f lower c.in-Take.field-0) c.requires).there

pub hear-requires-in-Take-clause-room : goal.hear-requires-in-Take-clause-room
hear-requires-in-Take-clause-room c = (value_at c.args.code.now c.args.instr.now (Take c.in-Take.field-0) 0 c.args.here.now c.args.stack.now (answer_of c.args.heard c.args.beside.now) c.in-Take.is (λ f lower. take_after c.args.code.now f lower c.in-Take.field-0) c.requires).room
