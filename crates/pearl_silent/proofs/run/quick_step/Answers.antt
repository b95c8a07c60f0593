use Rattle.std.proofs.Common.{arith}
use Rattle.pearl_stack.specs.Frames.{Stack}
use Rattle.pearl_silent.specs.Standing.{act_on}
use Rattle.pearl_silent.proofs.Places.{stack_some, place_within, here_at, tried_as, kept_tried, same_task_tried}
use Rattle.pearl_silent.proofs.run.quick_step.Goals as goal

pub place-requires : goal.place-requires
place-requires c = stack_some c.args.code.now c.args.stack.now.frames c.requires.stack

pub instruction_in-instr-requires : goal.instruction_in-instr-requires
instruction_in-instr-requires c =
    let less = place_within c.args.code.now c.args.stack.now.frames c.instructions_here-instructions.result.now c.requires.stack c.instructions_here-instructions.ensures in
    omega (arith, less, c.place.ensures)

pub on_silent-requires : goal.on_silent-requires
on_silent-requires c =
    let o = c.args.code.now in
    let now : Stack = c.args.stack.now in
    let k = c.laws_hold.ensures.laws in
    let v = c.laws_hold.ensures.valid in
    let w = c.laws_hold.ensures.object in
    let here = here_at k o now c.instructions_here-instructions.result.now c.place.result c.instruction_in-instr.result.now v w c.requires.stack c.requires.room c.instructions_here-instructions.ensures c.place.ensures
    c.instruction_in-instr.ensures.instr c.instruction_in-instr.ensures.next in
    here.at

pub returns-clause-tries : goal.returns-clause-tries
returns-clause-tries c =
    let o = c.args.code.now in
    let now : Stack = c.args.stack.now in
    let k = c.laws_hold.ensures.laws in
    let v = c.laws_hold.ensures.valid in
    let w = c.laws_hold.ensures.object in
    let here = here_at k o now c.instructions_here-instructions.result.now c.place.result c.instruction_in-instr.result.now v w c.requires.stack c.requires.room c.instructions_here-instructions.ensures c.place.ensures
    c.instruction_in-instr.ensures.instr c.instruction_in-instr.ensures.next in
    let tries = tried_as o (act_on o c.instruction_in-instr.result.now now.frames) now c.on_silent.new.stack c.on_silent.result c.instruction_in-instr.result.now here.row here.there c.on_silent.ensures in
    tries

pub returns-clause-stack : goal.returns-clause-stack
returns-clause-stack c =
    let o = c.args.code.now in
    let now : Stack = c.args.stack.now in
    let k = c.laws_hold.ensures.laws in
    let v = c.laws_hold.ensures.valid in
    let w = c.laws_hold.ensures.object in
    let here = here_at k o now c.instructions_here-instructions.result.now c.place.result c.instruction_in-instr.result.now v w c.requires.stack c.requires.room c.instructions_here-instructions.ensures c.place.ensures
    c.instruction_in-instr.ensures.instr c.instruction_in-instr.ensures.next in
    let tries = tried_as o (act_on o c.instruction_in-instr.result.now now.frames) now c.on_silent.new.stack c.on_silent.result c.instruction_in-instr.result.now here.row here.there c.on_silent.ensures in
    (kept_tried k o now c.on_silent.new.stack c.on_silent.result v w c.requires.stack c.requires.room tries).0

pub returns-clause-room : goal.returns-clause-room
returns-clause-room c =
    let o = c.args.code.now in
    let now : Stack = c.args.stack.now in
    let k = c.laws_hold.ensures.laws in
    let v = c.laws_hold.ensures.valid in
    let w = c.laws_hold.ensures.object in
    let here = here_at k o now c.instructions_here-instructions.result.now c.place.result c.instruction_in-instr.result.now v w c.requires.stack c.requires.room c.instructions_here-instructions.ensures c.place.ensures
    c.instruction_in-instr.ensures.instr c.instruction_in-instr.ensures.next in
    let tries = tried_as o (act_on o c.instruction_in-instr.result.now now.frames) now c.on_silent.new.stack c.on_silent.result c.instruction_in-instr.result.now here.row here.there c.on_silent.ensures in
    (kept_tried k o now c.on_silent.new.stack c.on_silent.result v w c.requires.stack c.requires.room tries).1

pub returns-clause-task : goal.returns-clause-task
returns-clause-task c =
    let o = c.args.code.now in
    let now : Stack = c.args.stack.now in
    let k = c.laws_hold.ensures.laws in
    let v = c.laws_hold.ensures.valid in
    let w = c.laws_hold.ensures.object in
    let here = here_at k o now c.instructions_here-instructions.result.now c.place.result c.instruction_in-instr.result.now v w c.requires.stack c.requires.room c.instructions_here-instructions.ensures c.place.ensures
    c.instruction_in-instr.ensures.instr c.instruction_in-instr.ensures.next in
    let tries = tried_as o (act_on o c.instruction_in-instr.result.now now.frames) now c.on_silent.new.stack c.on_silent.result c.instruction_in-instr.result.now here.row here.there c.on_silent.ensures in
    same_task_tried k o now c.on_silent.new.stack c.on_silent.result v w c.requires.stack tries
