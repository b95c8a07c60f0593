use Rattle.std.proofs.Common.{map, drop}
use Rattle.pearl_tree.specs.ShownModules.{shown_decl}
use Rattle.pearl_names.specs.Holding.{HoldsTable}
use Rattle.pearl_names.specs.Tables.{Table}
use Rattle.pearl_resolve.specs.Holding.{at_in, numbers_held}
use Rattle.pearl_resolve.specs.Numbers.{first}
use Rattle.pearl_resolve.proofs.Numbering.{PastDecls}
use Rattle.pearl_resolve.proofs.numbers.number_decls.Given as goal

abbrev pub invariant-loop-decl : goal.invariant-loop-decl
invariant-loop-decl l = (t : Table) → HoldsTable l.table t →
    PastDecls t (at_in l.here) first (numbers_held l.into.items) (numbers_held l.fn.into.items) (map shown_decl (drop l.decl-index l.decls)) (map shown_decl l.decls)
