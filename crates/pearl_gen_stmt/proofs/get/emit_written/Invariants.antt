use Rattle.std.proofs.Common.{◌+◌, map, drop}
use Rattle.pearl_meaning.specs.Setting.{Setting}
use Rattle.pearl_program.specs.PlainExpressions.{plain_variable}
use Rattle.pearl_gen_expr.specs.Emitting.{Extends}
use Rattle.pearl_gen_stmt.proofs.Getting.{WrittenSoFar}
use Rattle.pearl_gen_stmt.proofs.get.emit_written.Given as goal

abbrev pub invariant-loop-index : goal.invariant-loop-index
invariant-loop-index l =
    Extends l.fn.code.items l.code.items ×
    ((setting : Setting) → WrittenSoFar setting l.fn.code.items l.code.items (l.cell + l.index) (l.at + l.index) (map plain_variable (drop l.index l.targets))
    l.cell l.at (map plain_variable l.targets))
