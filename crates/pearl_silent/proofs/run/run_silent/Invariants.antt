use Rattle.std.proofs.Common.{◌≡◌, ◌≤◌, ℕ, Some}
use Rattle.pearl_instructions.specs.Objects.{routines}
use Rattle.pearl_instructions.specs.Stacks.{IsStack, task_of, room, all_rows}
use Rattle.pearl_silent.specs.Settling.{Silently, instructions_of}
use Rattle.pearl_silent.proofs.Settling.{rows_left}
use Rattle.pearl_silent.proofs.run.run_silent.Given as goal

abbrev pub invariant-rows : goal.invariant-rows
invariant-rows l = record {
  stack : IsStack l.code l.stack.frames;
  room : room l.code l.stack.frames ≤ l.stack.room;
  task : task_of l.code l.stack.frames ≡ task_of l.code l.initial.stack.frames;
  silent : (n : ℕ) × Silently l.code n l.initial.stack.frames l.stack.frames;
  same : (l.stack.room ≡ l.initial.stack.room) × (l.stack.most ≡ l.initial.stack.most);
  instructions : instructions_of l.code l.stack.frames ≡ Some l.instructions;
}

abbrev pub decreases-rows : goal.decreases-rows
decreases-rows l = rows_left l.code (all_rows (routines l.code)) l.stack.frames
