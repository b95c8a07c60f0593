use Rattle.std.proofs.Common.{◌≡◌, map, take}
use Rattle.pearl_stack.specs.Laws.{all_pushed}
use Rattle.pearl_saved.specs.Stacks.{cell_made}
use Rattle.pearl_saved.proofs.stacks.push_all.Given as goal

abbrev pub invariant-loop-operand : goal.invariant-loop-operand
invariant-loop-operand l =
    l.stack ≡ record l.initial.stack { frames = all_pushed (map cell_made (take l.operand-index l.operands)) l.initial.stack.frames }
