use Rattle.std.proofs.Common.{◌+◌, map, drop}
use Rattle.pearl_program.specs.PlainExpressions.{cell_of}
use Rattle.pearl_meaning.specs.Setting.{Setting}
use Rattle.pearl_gen_expr.specs.Emitting.{Extends}
use Rattle.pearl_gen_stmt.proofs.Storing.{StoresSoFar}
use Rattle.pearl_gen_stmt.proofs.renewal.emit_stores.Given as goal

abbrev pub invariant-loop-index : goal.invariant-loop-index
invariant-loop-index l =
    Extends l.fn.code.items l.code.items ×
    ((setting : Setting) → StoresSoFar setting l.fn.code.items l.code.items (l.cell + l.index) (map cell_of (drop l.index l.constants)) l.cell (map cell_of l.constants))
