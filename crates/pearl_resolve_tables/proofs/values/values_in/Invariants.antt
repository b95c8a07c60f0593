use Rattle.std.proofs.Common.{◌≡◌, ◌++◌, map, drop}
use Rattle.pearl_program.specs.PlainExpressions.{cell_of}
use Rattle.pearl_tree.specs.ShownLiterals.{shown_const}
use Rattle.pearl_resolve_tables.specs.Laying.{constant_in}
use Rattle.pearl_resolve_tables.proofs.values.values_in.Given as goal

abbrev pub invariant-loop-constant : goal.invariant-loop-constant
invariant-loop-constant l =
    map cell_of l.made.items ++ map (constant_in l.kind) (map shown_const (drop l.constant-index l.constants)) ≡
    map (constant_in l.kind) (map shown_const l.constants)
