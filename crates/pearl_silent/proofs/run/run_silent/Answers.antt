use Rattle.std.proofs.Common.{◌≤◌, suc, refl, sym, ap, ◌∙◌, subst, arith}
use Rattle.pearl_rules.specs.declared.action.Action.TheVariants as action
use Rattle.pearl_stack.specs.Frames.{Stack}
use Rattle.pearl_instructions.specs.Objects.{routines}
use Rattle.pearl_instructions.specs.Rows.{row}
use Rattle.pearl_instructions.specs.Stacks.{IsStack, task_of, room, all_rows}
use Rattle.pearl_silent.specs.Settling.{Silently}
use Rattle.pearl_silent.specs.Standing.{act_on, instr_of}
use Rattle.pearl_silent.specs.Steps.{GoesOn, Halts, told, Does, HasNext}
use Rattle.pearl_silent.proofs.Places.{stack_some, place_within, here_at, instructions_stay}
use Rattle.pearl_silent.proofs.Settling.{falls}
use Rattle.pearl_silent.proofs.Stands.{kept, same_task}
use Rattle.pearl_silent.proofs.run.run_silent.Goals as goal

pub rows-init : goal.rows-init
rows-init c = record {
  stack = c.requires.stack;
  room = c.requires.room;
  task = refl;
  silent = (0, refl);
  same = (refl, refl);
  instructions = c.instructions_here-instructions.ensures;
}

pub place-requires : goal.place-requires
place-requires c = stack_some c.args.code.now c.rows.stack.frames c.rows.invariant.stack

pub instruction_in-instr-requires : goal.instruction_in-instr-requires
instruction_in-instr-requires c =
    let less = place_within c.args.code.now c.rows.stack.frames c.rows.instructions.now c.rows.invariant.stack c.rows.invariant.instructions in
    omega (arith, less, c.place.ensures)

pub on_silent-requires : goal.on_silent-requires
on_silent-requires c =
    let o = c.args.code.now in
    let now : Stack = c.rows.stack in
    let k = c.laws_hold.ensures.laws in
    let v = c.laws_hold.ensures.valid in
    let w = c.laws_hold.ensures.object in
    let inv = c.rows.invariant in
    let here = here_at k o now c.rows.instructions.now c.place.result c.instruction_in-instr.result.now v w inv.stack inv.room inv.instructions c.place.ensures
    c.instruction_in-instr.ensures.instr c.instruction_in-instr.ensures.next in
    here.at

pub instructions_after-instructions-requires-clause-stack : goal.instructions_after-instructions-requires-clause-stack
instructions_after-instructions-requires-clause-stack c =
    let o = c.args.code.now in
    let now : Stack = c.rows.stack in
    let k = c.laws_hold.ensures.laws in
    let v = c.laws_hold.ensures.valid in
    let w = c.laws_hold.ensures.object in
    let inv = c.rows.invariant in
    let here = here_at k o now c.rows.instructions.now c.place.result c.instruction_in-instr.result.now v w inv.stack inv.room inv.instructions c.place.ensures
    c.instruction_in-instr.ensures.instr c.instruction_in-instr.ensures.next in
    let does : Does (row o now.frames) now c.on_silent.new.stack GoesOn =
    subst (λ r. Does r now c.on_silent.new.stack GoesOn) (sym here.row)
    (subst (λ d. Does (act_on o c.instruction_in-instr.result.now now.frames) now c.on_silent.new.stack (told d)) c.in-Silent.is c.in-Some.ensures) in
    (kept k o now c.on_silent.new.stack GoesOn v w inv.stack inv.room does).0

pub instructions_after-instructions-requires-clause-same : goal.instructions_after-instructions-requires-clause-same
instructions_after-instructions-requires-clause-same c =
    let o = c.args.code.now in
    let now : Stack = c.rows.stack in
    let k = c.laws_hold.ensures.laws in
    let v = c.laws_hold.ensures.valid in
    let w = c.laws_hold.ensures.object in
    let inv = c.rows.invariant in
    let here = here_at k o now c.rows.instructions.now c.place.result c.instruction_in-instr.result.now v w inv.stack inv.room inv.instructions c.place.ensures
    c.instruction_in-instr.ensures.instr c.instruction_in-instr.ensures.next in
    let does : Does (row o now.frames) now c.on_silent.new.stack GoesOn =
    subst (λ r. Does r now c.on_silent.new.stack GoesOn) (sym here.row)
    (subst (λ d. Does (act_on o c.instruction_in-instr.result.now now.frames) now c.on_silent.new.stack (told d)) c.in-Silent.is c.in-Some.ensures) in
    λ other. instructions_stay k o now.frames c.on_silent.new.stack.frames c.instruction_in-instr.result.now inv.stack here.there other does.0 ∙ inv.instructions

pub rows-smaller : goal.rows-smaller
rows-smaller c =
    let o = c.args.code.now in
    let now : Stack = c.rows.stack in
    let k = c.laws_hold.ensures.laws in
    let v = c.laws_hold.ensures.valid in
    let w = c.laws_hold.ensures.object in
    let inv = c.rows.invariant in
    let here = here_at k o now c.rows.instructions.now c.place.result c.instruction_in-instr.result.now v w inv.stack inv.room inv.instructions c.place.ensures
    c.instruction_in-instr.ensures.instr c.instruction_in-instr.ensures.next in
    let does : Does (row o now.frames) now c.on_silent.new.stack GoesOn =
    subst (λ r. Does r now c.on_silent.new.stack GoesOn) (sym here.row)
    (subst (λ d. Does (act_on o c.instruction_in-instr.result.now now.frames) now c.on_silent.new.stack (told d)) c.in-Silent.is c.in-Some.ensures) in
    falls o (all_rows (routines o)) now.frames c.on_silent.new.stack.frames (k.soon o v w now.frames inv.stack) does.0

pub rows-preserved : goal.rows-preserved
rows-preserved c =
    let o = c.args.code.now in
    let now : Stack = c.rows.stack in
    let k = c.laws_hold.ensures.laws in
    let v = c.laws_hold.ensures.valid in
    let w = c.laws_hold.ensures.object in
    let inv = c.rows.invariant in
    let here = here_at k o now c.rows.instructions.now c.place.result c.instruction_in-instr.result.now v w inv.stack inv.room inv.instructions c.place.ensures
    c.instruction_in-instr.ensures.instr c.instruction_in-instr.ensures.next in
    let does : Does (row o now.frames) now c.on_silent.new.stack GoesOn =
    subst (λ r. Does r now c.on_silent.new.stack GoesOn) (sym here.row)
    (subst (λ d. Does (act_on o c.instruction_in-instr.result.now now.frames) now c.on_silent.new.stack (told d)) c.in-Silent.is c.in-Some.ensures) in
    let keeps = kept k o now c.on_silent.new.stack GoesOn v w inv.stack inv.room does in
    record {
      stack = keeps.0;
      room = keeps.1;
      task = same_task k o now c.on_silent.new.stack GoesOn v w inv.stack does ∙ inv.task;
      silent = (suc inv.silent.0, (now.frames, inv.silent.1, does.0));
      same = (does.1 ∙ inv.same.0, does.2 ∙ inv.same.1);
      instructions = c.instructions_after-instructions.ensures;
    }

pub returns-in-Trapped-clause-runs : goal.returns-in-Trapped-clause-runs
returns-in-Trapped-clause-runs c =
    let o = c.args.code.now in
    let now : Stack = c.rows.stack in
    let k = c.laws_hold.ensures.laws in
    let v = c.laws_hold.ensures.valid in
    let w = c.laws_hold.ensures.object in
    let inv = c.rows.invariant in
    let here = here_at k o now c.rows.instructions.now c.place.result c.instruction_in-instr.result.now v w inv.stack inv.room inv.instructions c.place.ensures
    c.instruction_in-instr.ensures.instr c.instruction_in-instr.ensures.next in
    let does : Does (row o now.frames) now c.on_silent.new.stack (Halts (action.Trap c.in-Trapped.trap)) =
    subst (λ r. Does r now c.on_silent.new.stack (Halts (action.Trap c.in-Trapped.trap))) (sym here.row)
    (subst (λ d. Does (act_on o c.instruction_in-instr.result.now now.frames) now c.on_silent.new.stack (told d)) c.in-Trapped.is c.in-Some.ensures) in
    let same = does.2 in
    record {
      rows = inv.silent.0;
      silent = subst (λ (s : Stack). Silently o inv.silent.0 c.args.stack.now.frames s.frames) (sym same) inv.silent.1;
      ends = (does.0, ap (λ (s : Stack). row o s.frames) same ∙ does.1);
    }

pub returns-in-Trapped-clause-memory : goal.returns-in-Trapped-clause-memory
returns-in-Trapped-clause-memory c =
    let o = c.args.code.now in
    let now : Stack = c.rows.stack in
    let k = c.laws_hold.ensures.laws in
    let v = c.laws_hold.ensures.valid in
    let w = c.laws_hold.ensures.object in
    let inv = c.rows.invariant in
    let here = here_at k o now c.rows.instructions.now c.place.result c.instruction_in-instr.result.now v w inv.stack inv.room inv.instructions c.place.ensures
    c.instruction_in-instr.ensures.instr c.instruction_in-instr.ensures.next in
    let does : Does (row o now.frames) now c.on_silent.new.stack (Halts (action.Trap c.in-Trapped.trap)) =
    subst (λ r. Does r now c.on_silent.new.stack (Halts (action.Trap c.in-Trapped.trap))) (sym here.row)
    (subst (λ d. Does (act_on o c.instruction_in-instr.result.now now.frames) now c.on_silent.new.stack (told d)) c.in-Trapped.is c.in-Some.ensures) in
    let same = does.2 in
    (ap (λ (s : Stack). s.room) same ∙ inv.same.0, ap (λ (s : Stack). s.most) same ∙ inv.same.1)

pub returns-in-Trapped-clause-stack : goal.returns-in-Trapped-clause-stack
returns-in-Trapped-clause-stack c =
    let o = c.args.code.now in
    let now : Stack = c.rows.stack in
    let k = c.laws_hold.ensures.laws in
    let v = c.laws_hold.ensures.valid in
    let w = c.laws_hold.ensures.object in
    let inv = c.rows.invariant in
    let here = here_at k o now c.rows.instructions.now c.place.result c.instruction_in-instr.result.now v w inv.stack inv.room inv.instructions c.place.ensures
    c.instruction_in-instr.ensures.instr c.instruction_in-instr.ensures.next in
    let does : Does (row o now.frames) now c.on_silent.new.stack (Halts (action.Trap c.in-Trapped.trap)) =
    subst (λ r. Does r now c.on_silent.new.stack (Halts (action.Trap c.in-Trapped.trap))) (sym here.row)
    (subst (λ d. Does (act_on o c.instruction_in-instr.result.now now.frames) now c.on_silent.new.stack (told d)) c.in-Trapped.is c.in-Some.ensures) in
    let same = does.2 in
    subst (λ (s : Stack). IsStack o s.frames) (sym same) inv.stack

pub returns-in-Trapped-clause-room : goal.returns-in-Trapped-clause-room
returns-in-Trapped-clause-room c =
    let o = c.args.code.now in
    let now : Stack = c.rows.stack in
    let k = c.laws_hold.ensures.laws in
    let v = c.laws_hold.ensures.valid in
    let w = c.laws_hold.ensures.object in
    let inv = c.rows.invariant in
    let here = here_at k o now c.rows.instructions.now c.place.result c.instruction_in-instr.result.now v w inv.stack inv.room inv.instructions c.place.ensures
    c.instruction_in-instr.ensures.instr c.instruction_in-instr.ensures.next in
    let does : Does (row o now.frames) now c.on_silent.new.stack (Halts (action.Trap c.in-Trapped.trap)) =
    subst (λ r. Does r now c.on_silent.new.stack (Halts (action.Trap c.in-Trapped.trap))) (sym here.row)
    (subst (λ d. Does (act_on o c.instruction_in-instr.result.now now.frames) now c.on_silent.new.stack (told d)) c.in-Trapped.is c.in-Some.ensures) in
    let same = does.2 in
    subst (λ (s : Stack). room o s.frames ≤ s.room) (sym same) inv.room

pub returns-in-Trapped-clause-task : goal.returns-in-Trapped-clause-task
returns-in-Trapped-clause-task c =
    let o = c.args.code.now in
    let now : Stack = c.rows.stack in
    let k = c.laws_hold.ensures.laws in
    let v = c.laws_hold.ensures.valid in
    let w = c.laws_hold.ensures.object in
    let inv = c.rows.invariant in
    let here = here_at k o now c.rows.instructions.now c.place.result c.instruction_in-instr.result.now v w inv.stack inv.room inv.instructions c.place.ensures
    c.instruction_in-instr.ensures.instr c.instruction_in-instr.ensures.next in
    let does : Does (row o now.frames) now c.on_silent.new.stack (Halts (action.Trap c.in-Trapped.trap)) =
    subst (λ r. Does r now c.on_silent.new.stack (Halts (action.Trap c.in-Trapped.trap))) (sym here.row)
    (subst (λ d. Does (act_on o c.instruction_in-instr.result.now now.frames) now c.on_silent.new.stack (told d)) c.in-Trapped.is c.in-Some.ensures) in
    let same = does.2 in
    ap (λ (s : Stack). task_of o s.frames) same ∙ inv.task

pub returns-in-None-clause-runs : goal.returns-in-None-clause-runs
returns-in-None-clause-runs c =
    let o = c.args.code.now in
    let now : Stack = c.rows.stack in
    let k = c.laws_hold.ensures.laws in
    let v = c.laws_hold.ensures.valid in
    let w = c.laws_hold.ensures.object in
    let inv = c.rows.invariant in
    let here = here_at k o now c.rows.instructions.now c.place.result c.instruction_in-instr.result.now v w inv.stack inv.room inv.instructions c.place.ensures
    c.instruction_in-instr.ensures.instr c.instruction_in-instr.ensures.next in
    let same = c.in-None.ensures.1 in
    record {
      rows = inv.silent.0;
      silent = subst (λ (s : Stack). Silently o inv.silent.0 c.args.stack.now.frames s.frames) (sym same) inv.silent.1;
      ends = (c.instruction_in-instr.result.now, ap (λ (s : Stack). instr_of o s.frames) same ∙ here.there, c.in-None.ensures.0);
    }

pub returns-in-None-clause-memory : goal.returns-in-None-clause-memory
returns-in-None-clause-memory c =
    let o = c.args.code.now in
    let now : Stack = c.rows.stack in
    let k = c.laws_hold.ensures.laws in
    let v = c.laws_hold.ensures.valid in
    let w = c.laws_hold.ensures.object in
    let inv = c.rows.invariant in
    let here = here_at k o now c.rows.instructions.now c.place.result c.instruction_in-instr.result.now v w inv.stack inv.room inv.instructions c.place.ensures
    c.instruction_in-instr.ensures.instr c.instruction_in-instr.ensures.next in
    let same = c.in-None.ensures.1 in
    (ap (λ (s : Stack). s.room) same ∙ inv.same.0, ap (λ (s : Stack). s.most) same ∙ inv.same.1)

pub returns-in-None-clause-stack : goal.returns-in-None-clause-stack
returns-in-None-clause-stack c =
    let o = c.args.code.now in
    let now : Stack = c.rows.stack in
    let k = c.laws_hold.ensures.laws in
    let v = c.laws_hold.ensures.valid in
    let w = c.laws_hold.ensures.object in
    let inv = c.rows.invariant in
    let here = here_at k o now c.rows.instructions.now c.place.result c.instruction_in-instr.result.now v w inv.stack inv.room inv.instructions c.place.ensures
    c.instruction_in-instr.ensures.instr c.instruction_in-instr.ensures.next in
    let same = c.in-None.ensures.1 in
    subst (λ (s : Stack). IsStack o s.frames) (sym same) inv.stack

pub returns-in-None-clause-room : goal.returns-in-None-clause-room
returns-in-None-clause-room c =
    let o = c.args.code.now in
    let now : Stack = c.rows.stack in
    let k = c.laws_hold.ensures.laws in
    let v = c.laws_hold.ensures.valid in
    let w = c.laws_hold.ensures.object in
    let inv = c.rows.invariant in
    let here = here_at k o now c.rows.instructions.now c.place.result c.instruction_in-instr.result.now v w inv.stack inv.room inv.instructions c.place.ensures
    c.instruction_in-instr.ensures.instr c.instruction_in-instr.ensures.next in
    let same = c.in-None.ensures.1 in
    subst (λ (s : Stack). room o s.frames ≤ s.room) (sym same) inv.room

pub returns-in-None-clause-task : goal.returns-in-None-clause-task
returns-in-None-clause-task c =
    let o = c.args.code.now in
    let now : Stack = c.rows.stack in
    let k = c.laws_hold.ensures.laws in
    let v = c.laws_hold.ensures.valid in
    let w = c.laws_hold.ensures.object in
    let inv = c.rows.invariant in
    let here = here_at k o now c.rows.instructions.now c.place.result c.instruction_in-instr.result.now v w inv.stack inv.room inv.instructions c.place.ensures
    c.instruction_in-instr.ensures.instr c.instruction_in-instr.ensures.next in
    let same = c.in-None.ensures.1 in
    ap (λ (s : Stack). task_of o s.frames) same ∙ inv.task

pub returns-in-None-clause-there : goal.returns-in-None-clause-there
returns-in-None-clause-there c =
    let o = c.args.code.now in
    let now : Stack = c.rows.stack in
    let k = c.laws_hold.ensures.laws in
    let v = c.laws_hold.ensures.valid in
    let w = c.laws_hold.ensures.object in
    let inv = c.rows.invariant in
    let here = here_at k o now c.rows.instructions.now c.place.result c.instruction_in-instr.result.now v w inv.stack inv.room inv.instructions c.place.ensures
    c.instruction_in-instr.ensures.instr c.instruction_in-instr.ensures.next in
    let same = c.in-None.ensures.1 in
    ap (λ (s : Stack). instr_of o s.frames) same ∙ here.there

pub returns-in-None-clause-family : goal.returns-in-None-clause-family
returns-in-None-clause-family c = c.in-None.ensures.0

pub returns-in-None-clause-next : goal.returns-in-None-clause-next
returns-in-None-clause-next c =
    let o = c.args.code.now in
    let now : Stack = c.rows.stack in
    let k = c.laws_hold.ensures.laws in
    let v = c.laws_hold.ensures.valid in
    let w = c.laws_hold.ensures.object in
    let inv = c.rows.invariant in
    let here = here_at k o now c.rows.instructions.now c.place.result c.instruction_in-instr.result.now v w inv.stack inv.room inv.instructions c.place.ensures
    c.instruction_in-instr.ensures.instr c.instruction_in-instr.ensures.next in
    let same = c.in-None.ensures.1 in
    subst (λ (s : Stack). HasNext s.frames) (sym same) here.at.next
