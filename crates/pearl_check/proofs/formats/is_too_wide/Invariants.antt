use Rattle.std.proofs.Common.{◌≡◌, ◌+◌, length}
use Rattle.pearl_check.specs.Formats.{sum_of_widths}
use Rattle.pearl_check.proofs.formats.is_too_wide.Given as goal

abbrev pub invariant-loop-items : goal.invariant-loop-items
invariant-loop-items l = sum_of_widths l.initial.items l.initial.kinds + l.room ≡ 1024 + sum_of_widths l.items l.kinds

abbrev pub decreases-loop-items : goal.decreases-loop-items
decreases-loop-items l = length l.items
