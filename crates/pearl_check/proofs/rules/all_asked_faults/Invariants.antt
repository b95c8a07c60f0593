use Rattle.std.proofs.Common.{take}
use Rattle.pearl_names.specs.Holding.{HoldsTable}
use Rattle.pearl_names.specs.Tables.{Table}
use Rattle.pearl_check.specs.Asked.{asked_in}
use Rattle.pearl_check.specs.Findings.{AreFound}
use Rattle.pearl_check.specs.Roles.{asked_faults}
use Rattle.pearl_check.proofs.Adding.{Adds}
use Rattle.pearl_check.proofs.rules.all_asked_faults.Given as goal

abbrev pub invariant-loop-part : goal.invariant-loop-part
invariant-loop-part l =
    ((table : Table) → HoldsTable l.table table → AreFound table l.findings (asked_in (take l.part-index l.asked))) ×
    Adds l.table l.fn.faults.items l.faults.items asked_faults (asked_in (take l.part-index l.asked))
