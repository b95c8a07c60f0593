use Rattle.std.proofs.Common.{take}
use Rattle.pearl_scope.specs.PartLists.{parts_in}
use Rattle.pearl_scope.proofs.Asking.{Asked}
use Rattle.pearl_scope.proofs.rules.rules_at_all.Given as goal

abbrev pub invariant-loop-part : goal.invariant-loop-part
invariant-loop-part l =
    Asked l.scopes l.lengths l.fn.types l.types l.fn.faults.items l.faults.items (parts_in (take l.part-index l.parts))
