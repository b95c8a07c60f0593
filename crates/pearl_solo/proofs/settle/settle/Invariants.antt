use Rattle.std.proofs.Common.{◌≡◌, ◌≤◌}
use Rattle.pearl_instructions.specs.Objects.{routines}
use Rattle.pearl_instructions.specs.Stacks.{IsStack, task_of, room, all_rows}
use Rattle.pearl_silent.proofs.Offered.{Run, rows_left}
use Rattle.pearl_solo.proofs.settle.settle.Given as goal

abbrev pub invariant-loop-trap : goal.invariant-loop-trap
invariant-loop-trap l = record {
  stack : IsStack l.code l.stack.frames;
  room : room l.code l.stack.frames ≤ l.stack.room;
  task : task_of l.code l.stack.frames ≡ task_of l.code l.initial.stack.frames;
  run : Run l.code l.initial.stack.frames l.stack.frames;
  same : (l.stack.room ≡ l.initial.stack.room) × (l.stack.most ≡ l.initial.stack.most);
}

abbrev pub decreases-loop-trap : goal.decreases-loop-trap
decreases-loop-trap l = rows_left l.code (all_rows (routines l.code)) l.stack.frames
