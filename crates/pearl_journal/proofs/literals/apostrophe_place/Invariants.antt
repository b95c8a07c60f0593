use Rattle.std.proofs.Common.{◌≡◌, ◌≤◌, ◌+◌, ◌-◌, length, drop}
use Rattle.std.specs.List.{position_or_len}
use Rattle.pearl_journal.specs.Texts.{is_apostrophe}
use Rattle.pearl_journal.proofs.literals.apostrophe_place.Given as goal

abbrev pub invariant-loop-end : goal.invariant-loop-end
invariant-loop-end l = record { far : l.end + position_or_len is_apostrophe (drop l.end l.text) ≡ position_or_len is_apostrophe l.text; within : l.end ≤ length l.text }

abbrev pub decreases-loop-end : goal.decreases-loop-end
decreases-loop-end l = length l.text - l.end
