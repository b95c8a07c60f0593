use Rattle.std.proofs.Common.{length, ◌-◌, ◌≡◌, ◌≤◌, ◌+◌, drop}
use Rattle.pearl_journal.specs.Lines.{line_end}
use Rattle.pearl_journal.proofs.lines.line_length.Given as goal

abbrev pub invariant-each : goal.invariant-each
invariant-each l = record { far : l.end + line_end (drop l.end l.bytes) ≡ line_end l.bytes; within : l.end ≤ length l.bytes }

abbrev pub decreases-each : goal.decreases-each
decreases-each l = length l.bytes - l.end
