use Rattle.std.proofs.Common.{◌≡◌, ◌++◌, map, length}
use Rattle.std.specs.List.{flat_map}
use Rattle.pearl_tree.specs.ShownModules.{shown_decl}
use Rattle.pearl_names.specs.Holding.{HoldsTable}
use Rattle.pearl_names.specs.Tables.{Table}
use Rattle.pearl_check.specs.Routines.{decls_routines}
use Rattle.pearl_check.specs.Rules.{routine_faults}
use Rattle.pearl_check.proofs.rules.decls_faults.Given as goal

abbrev pub invariant-loop-decls : goal.invariant-loop-decls
invariant-loop-decls l =
    (table : Table) → HoldsTable l.table table →
    l.faults.items ++ flat_map (routine_faults table) (decls_routines l.next (map shown_decl l.decls)) ≡
    l.fn.faults.items ++ flat_map (routine_faults table) (decls_routines 1 (map shown_decl l.initial.decls))

abbrev pub decreases-loop-decls : goal.decreases-loop-decls
decreases-loop-decls l = length l.decls
