use Rattle.std.proofs.Common.{◌≡◌, ◌++◌, map, take}
use Rattle.pearl_value.specs.declared.kind.CellKind.TheVariants.{Plain}
use Rattle.pearl_tree.specs.ShownExpressions.{shown_ref}
use Rattle.pearl_names.specs.declared.scope.View.TheVariants.{Within}
use Rattle.pearl_program.specs.PlainExpressions.{plain_variable}
use Rattle.pearl_resolve.specs.Expressions.{Numbered, resolve_variable, target_kind}
use Rattle.pearl_resolve.specs.Holding.{HoldsNumbered}
use Rattle.pearl_resolve.proofs.simple.targets_in.Given as goal

abbrev pub invariant-loop-target : goal.invariant-loop-target
invariant-loop-target l = (of : Numbered) → HoldsNumbered l.numbered of →
    (map plain_variable l.variables.items ≡ map (resolve_variable of (Within l.scope)) (map shown_ref (take l.target-index l.targets))) ×
    (l.cells.items ≡ l.fn.cells.items ++ map (λ target. Plain (target_kind of (Within l.scope) target)) (map shown_ref (take l.target-index l.targets)))
