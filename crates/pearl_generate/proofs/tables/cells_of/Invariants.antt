use Rattle.std.proofs.Common.{◌≡◌, take, map}
use Rattle.pearl_program.specs.PlainExpressions.{cell_of}
use Rattle.pearl_generate.proofs.tables.cells_of.Given as goal

abbrev pub invariant-loop-literal : goal.invariant-loop-literal
invariant-loop-literal l = l.cells.items ≡ map cell_of (take l.literal-index l.literals)
