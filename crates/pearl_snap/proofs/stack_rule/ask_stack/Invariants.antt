use Rattle.std.proofs.Common.{drop}
use Rattle.pearl_snap.proofs.Asking.{Climbs}
use Rattle.pearl_snap.proofs.stack_rule.ask_stack.Given as goal

abbrev pub invariant-loop-at : goal.invariant-loop-at
invariant-loop-at l = Climbs l.object l.fn.asked.items l.asked.items l.routine l.wanted l.frames (drop l.at l.frames)
