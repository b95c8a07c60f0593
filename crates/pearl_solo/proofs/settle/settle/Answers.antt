use Rattle.std.proofs.Common.{◌≡◌, refl, sym, ap, ◌∙◌, subst, List}
use Rattle.pearl_rules.specs.declared.action.Action.TheVariants as action
use Rattle.pearl_exchange.specs.Offers.{action_of}
use Rattle.pearl_stack.specs.Frames.{Frame, Stack}
use Rattle.pearl_instructions.specs.Objects.{routines}
use Rattle.pearl_instructions.specs.Rows.{row}
use Rattle.pearl_instructions.specs.Stacks.{all_rows}
use Rattle.pearl_silent.proofs.Offered.{Run, run_begins, run_goes, run_goes_on}
use Rattle.pearl_solo.proofs.Settling.{falls_behind, run_ends}
use Rattle.pearl_solo.proofs.settle.settle.Goals as goal

pub loop-trap-init : goal.loop-trap-init
loop-trap-init c = record {
  stack = c.requires.stack;
  room = c.requires.room;
  task = refl;
  run = run_begins c.args.code.now c.args.stack.now.frames
      (c.laws_hold.ensures.laws.soon c.args.code.now c.laws_hold.ensures.valid c.laws_hold.ensures.object c.args.stack.now.frames c.requires.stack);
  same = (refl, refl);
}

pub loop-trap-smaller : goal.loop-trap-smaller
loop-trap-smaller c =
    let runs = c.in-Ok.ensures.runs in
    let within = c.laws_hold.ensures.laws.soon c.args.code.now c.laws_hold.ensures.valid c.laws_hold.ensures.object c.loop-trap.stack.frames c.loop-trap.invariant.stack in
    falls_behind c.args.code.now (all_rows (routines c.args.code.now)) runs.rows c.loop-trap.stack.frames c.run_silent.new.stack.frames c.step_at.new.stack.frames within
    runs.silent c.in-Silent.ensures.does.0

pub loop-trap-preserved : goal.loop-trap-preserved
loop-trap-preserved c =
    let runs = c.in-Ok.ensures.runs in
    record {
      stack = c.in-Silent.ensures.stack;
      room = c.in-Silent.ensures.room;
      task = c.in-Silent.ensures.task ∙ (c.in-Ok.ensures.task ∙ c.loop-trap.invariant.task);
      run = run_goes c.args.code.now c.args.stack.now.frames c.run_silent.new.stack.frames c.step_at.new.stack.frames
          (run_goes_on c.args.code.now c.args.stack.now.frames c.loop-trap.stack.frames c.run_silent.new.stack.frames runs.rows c.loop-trap.invariant.run runs.silent) c.in-Silent.ensures.does.0;
      same = (c.in-Silent.ensures.does.1 ∙ (c.in-Ok.ensures.memory.0 ∙ c.loop-trap.invariant.same.0), c.in-Silent.ensures.does.2 ∙ (c.in-Ok.ensures.memory.1 ∙ c.loop-trap.invariant.same.1));
    }

pub returns-in-Err-clause-settles : goal.returns-in-Err-clause-settles
returns-in-Err-clause-settles c =
    let runs = c.in-Err.ensures.runs in
    run_ends c.args.code.now c.args.stack.now.frames c.run_silent.new.stack.frames (action.Trap c.in-Err.trap) runs.ends.0
    (run_goes_on c.args.code.now c.args.stack.now.frames c.loop-trap.stack.frames c.run_silent.new.stack.frames runs.rows c.loop-trap.invariant.run runs.silent) runs.ends.1

pub returns-in-Err-clause-memory : goal.returns-in-Err-clause-memory
returns-in-Err-clause-memory c = (c.in-Err.ensures.memory.0 ∙ c.loop-trap.invariant.same.0, c.in-Err.ensures.memory.1 ∙ c.loop-trap.invariant.same.1)

pub returns-in-Err-clause-task : goal.returns-in-Err-clause-task
returns-in-Err-clause-task c = c.in-Err.ensures.task ∙ c.loop-trap.invariant.task

pub returns-in-Offered-clause-settles : goal.returns-in-Offered-clause-settles
returns-in-Offered-clause-settles c =
    let o = c.args.code.now in
    let runs = c.in-Ok.ensures.runs in
    let does = c.in-Offered.ensures.does in
    let run = run_goes_on o c.args.stack.now.frames c.loop-trap.stack.frames c.run_silent.new.stack.frames runs.rows c.loop-trap.invariant.run runs.silent in
    run_ends o c.args.stack.now.frames c.step_at.new.stack.frames (action_of c.step_at.new.into) does.0
    (subst (λ (s : Stack). Run o c.args.stack.now.frames s.frames) (sym does.2) run) (ap (λ (s : Stack). row o s.frames) does.2 ∙ does.1)

pub returns-in-Offered-clause-memory : goal.returns-in-Offered-clause-memory
returns-in-Offered-clause-memory c =
    let does = c.in-Offered.ensures.does in
    (ap (λ (s : Stack). s.room) does.2 ∙ (c.in-Ok.ensures.memory.0 ∙ c.loop-trap.invariant.same.0), ap (λ (s : Stack). s.most) does.2 ∙ (c.in-Ok.ensures.memory.1 ∙ c.loop-trap.invariant.same.1))

pub returns-in-Offered-clause-task : goal.returns-in-Offered-clause-task
returns-in-Offered-clause-task c = c.in-Offered.ensures.task ∙ (c.in-Ok.ensures.task ∙ c.loop-trap.invariant.task)
