use Rattle.std.proofs.Common.{◌≡◌, take}
use Rattle.pearl_machine.proofs.tables.copy_formats.Given as goal

abbrev pub invariant-loop-items : goal.invariant-loop-items
invariant-loop-items l = l.copy.items ≡ take l.items-index l.formats
