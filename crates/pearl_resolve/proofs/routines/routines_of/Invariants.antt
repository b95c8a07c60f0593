use Rattle.std.proofs.Common.{map, drop}
use Rattle.pearl_tree.specs.ShownModules.{shown_decl}
use Rattle.pearl_resolve.specs.Expressions.{Numbered}
use Rattle.pearl_resolve.specs.Holding.{HoldsNumbered, at_in}
use Rattle.pearl_resolve.specs.Numbers.{first}
use Rattle.pearl_resolve.proofs.RoutineLists.{GoingRoutines}
use Rattle.pearl_resolve.proofs.routines.routines_of.Given as goal

abbrev pub invariant-loop-decl : goal.invariant-loop-decl
invariant-loop-decl l = (of : Numbered) → HoldsNumbered l.numbered of →
    GoingRoutines of (at_in l.here) first l.made (map shown_decl (drop l.decl-index l.decls)) (map shown_decl l.decls)
