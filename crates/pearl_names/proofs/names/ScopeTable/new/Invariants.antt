use Rattle.std.proofs.Common.{take}
use Rattle.pearl_names.proofs.Repeating.{Noted}
use Rattle.pearl_names.proofs.names.ScopeTable.new.Given as goal

abbrev pub invariant-loop-entry : goal.invariant-loop-entry
invariant-loop-entry l = Noted (take l.entry-index l.entry-items) l.first.entries l.repeats.items l.number
