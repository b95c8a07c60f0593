use Rattle.std.proofs.Common.{◌≡◌, ◌++◌, take}
use Rattle.pearl_fields.specs.Codec.{number_bytes, all_bytes}
use Rattle.pearl_snap.specs.Tasks.{task}
use Rattle.pearl_snap.specs.States.{tasks_of}
use Rattle.pearl_snap.proofs.state.put_tasks.Given as goal

abbrev pub invariant-loop-i : goal.invariant-loop-i
invariant-loop-i l = l.out.items ≡ (l.fn.out.items ++ number_bytes l.count) ++ all_bytes task.bytes (take l.i (tasks_of l.rows l.stacks))
