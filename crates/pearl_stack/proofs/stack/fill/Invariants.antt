use Rattle.std.proofs.Common.{◌≡◌, ◌++◌, replicate}
use Rattle.pearl_stack.specs.Frames.{unset}
use Rattle.pearl_stack.proofs.stack.fill.Given as goal

abbrev pub invariant-loop : goal.invariant-loop
invariant-loop l =
    (l.values.items ≡ l.initial.values.items ++ replicate l.counter unset) × (l.values.room ≡ l.initial.values.room)
