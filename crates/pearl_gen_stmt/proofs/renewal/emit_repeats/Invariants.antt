use Rattle.std.proofs.Common.{◌+◌, ◌-◌}
use Rattle.pearl_meaning.specs.Setting.{Setting}
use Rattle.pearl_gen_expr.specs.Emitting.{Extends}
use Rattle.pearl_gen_stmt.proofs.Storing.{RepeatsSoFar}
use Rattle.pearl_gen_stmt.proofs.renewal.emit_repeats.Given as goal

abbrev pub invariant-loop-index : goal.invariant-loop-index
invariant-loop-index l =
    Extends l.fn.code.items l.code.items ×
    ((setting : Setting) → RepeatsSoFar setting l.fn.code.items l.code.items (l.cell + l.index) (l.more - l.index) l.cell l.more)
