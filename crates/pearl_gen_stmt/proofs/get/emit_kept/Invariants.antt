use Rattle.std.proofs.Common.{◌+◌, map, drop}
use Rattle.pearl_program.specs.PlainExpressions.{plain_variable}
use Rattle.pearl_gen_stmt.specs.Emission.{setting_of}
use Rattle.pearl_gen_expr.specs.Emitting.{Extends}
use Rattle.pearl_gen_stmt.proofs.Getting.{KeptSoFar}
use Rattle.pearl_gen_stmt.proofs.get.emit_kept.Given as goal

abbrev pub invariant-loop-index : goal.invariant-loop-index
invariant-loop-index l =
    Extends l.fn.code.items l.code.items ×
    KeptSoFar (setting_of l.site.program.now l.site.result l.site.routine.now) l.fn.code.items l.code.items (l.at + l.index) (map plain_variable (drop l.index l.targets)) l.at (map plain_variable l.targets)
